use Rattle.std.proofs.Common.{◌≡◌, ℕ, ◌+◌, ◌*◌, ◌<◌, ◌||◌, ◌∙◌, ap, get_or, refl, subst, sym}
use Rattle.guest_elf.specs.Profiles.{unit}
use Rattle.guest_machine.specs.Run.{post, pre}
use Rattle.guest_machine.specs.Shows.{Shows}
use Rattle.guest_machine.specs.State.{State}
use Rattle.checkpoints.specs.Effects.{LeadsTo, Run}
use Rattle.checkpoints.specs.Entering.{IsApart}
use Rattle.checkpoints.specs.Forks.{IsForkFor}
use Rattle.checkpoints.specs.Merged.{AlsoSays}
use Rattle.checkpoints.specs.Sides.{RowTells, places, sided}
use Rattle.checkpoints.proofs.AlsoSteps.{covers-same}
use Rattle.checkpoints.proofs.EffectSteps.{Laws}
use Rattle.checkpoints.proofs.ForkSteps.{pre-led}
use Rattle.checkpoints.proofs.MarkSteps.{shows-along}
use Rattle.checkpoints.proofs.RunSteps.{pre-isa}
use Rattle.checkpoints.proofs.SideSteps.{apart, same-start, tells-there}
use Rattle.checkpoints.proofs.forks.Fork.follow_entering.Goals as goal

pub enter_sides-requires-clause-apart : goal.enter_sides-requires-clause-apart
enter_sides-requires-clause-apart c = subst IsApart (sym c.unit-apart.ensures) (apart c.isa.result)

pub returns : goal.returns
unfolding post
returns c =
    let laws : Laws = record {
      input = c.keeps_input.ensures;
      end = c.keeps_end.ensures;
      reads = c.reads_on.ensures;
      stays = c.end_stays.ensures;
      heap = c.keeps_heap.ensures;
    } in
    let effect = c.args.effect in
    let setup = c.args.setup.now in
    let marks = c.args.marks.now in
    let n = c.args.self.now.step in
    let of = c.requires.of in
    let shows : (one : Run) (start : State) (last : ℕ)
    → LeadsTo effect one (record { start = start; setup = setup; marks = marks })
    → IsForkFor effect one last c.args.self.now → Shows c.in_ok-written.written (pre start setup marks n) =
    λ one start last l fork. shows-along _ _ _ _ refl
    (pre-led laws (record { pokes = c.keeps_pokes.ensures; isa = c.keeps_isa.ensures }) effect one
    (record { start = start; setup = setup; marks = marks }) n fork.whole l fork.step.hidden)
    (c.in_ok-written.ensures _ fork.shows) in
    let units : (one : Run) (start : State)
    → LeadsTo effect one (record { start = start; setup = setup; marks = marks })
    → unit start.core.isa ≡ unit one.start.core.isa =
    λ one start l. ap (λ (s : State). unit s.core.isa) (l.start ∙ same-start effect one.start of) in
    let far : (start : State) → Shows c.in_ok-written.written (pre start setup marks n)
    → c.unit-apart.result ≡ unit start.core.isa =
    λ start h. c.unit-apart.ensures ∙ ap unit (c.isa.ensures _ h ∙ pre-isa c.keeps_isa.ensures start setup marks n) in
    record {
      shows = λ last one start l fork. c.in_ok-marked.ensures _ (c.in_ok-machine.ensures.shows start
          (shows one start last l fork));
      sides = λ one start last len l fork told.
          let there = shows one start last l fork in
          record {
            rows = c.in_ok-machine.ensures.rows ∙ told.rows ∙ ap (λ m. places m len) (sym (units one start l));
            tells = λ i on d less.
                let within = subst (λ m. i < m) c.in_ok-machine.ensures.rows less in
                let old = get_or c.args.table.now.items i d in
                subst (λ m. RowTells start setup marks c.args.step (sided (c.args.first + m * i) on)
                (get_or c.enter_sides.new.table.items i d)) (far start there)
                ((c.in_ok-machine.ensures.extends start there).tells i on d within
                (subst (λ m. RowTells start setup marks n (sided (c.args.first + m * i) on) old)
                (sym (far start there ∙ units one start l))
                (tells-there laws effect of one (record { start = start; setup = setup; marks = marks }) n l
                fork.step.hidden (sided (c.args.first + unit one.start.core.isa * i) on) old
                (told.tells i on d within))));
          };
      rows = c.in_ok-machine.ensures.rows;
      also = λ one start last i on others d l fork less says.
          let there = shows one start last l fork in
          let apart = far start there ∙ units one start l in
          let old = get_or c.args.table.now.items i d in
          subst (λ m. AlsoSays others start setup marks c.args.step (sided (c.args.first + m * i) on)
          (get_or c.enter_sides.new.table.items i d)) apart
          ((c.in_ok-machine.ensures.extends start there).also i on others d less
          (subst (λ m. AlsoSays others start setup marks n (sided (c.args.first + m * i) on) old) (sym apart)
          (says ∙ ap (λ b. others || b) (covers-same laws effect of one
          (record { start = start; setup = setup; marks = marks }) n l fork.step.hidden
          (sided (c.args.first + unit one.start.core.isa * i) on)))));
    }
