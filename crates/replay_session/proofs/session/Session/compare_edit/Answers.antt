use Rattle.replay_session.proofs.session.Session.compare_edit.Goals as goal

pub invariant_of-self : goal.invariant_of-self
invariant_of-self c = record {
  loads = rw c.compare_edit.ensures.same c.args.self.now.loads;
  right = rw c.compare_edit.ensures.same c.args.self.now.right;
  near = rw c.compare_edit.ensures.same c.args.self.now.near;
}
