-- Links that say the same give the same kinds.
use Rattle.std.proofs.Common.{◌≡◌, ℕ, ◌<◌, inl, inr, subst}
use Rattle.leak_graph.specs.Paths.{HasPath}
use Rattle.leak_graph.specs.Leaks.{Links, IsReachable, IsFound, IsLost, LostEdge, IsHeldBy, HasKind}
use Rattle.leak_graph.specs.declared.leak_kind.LeakKind.{LeakKind}
use Rattle.leak_graph.specs.declared.leak_kind.LeakKind.TheVariants.{Definite, Indirect, Possible, Reachable}
use Rattle.leak_graph.proofs.Paths.{path_map, reached_map}

-- each link of the one is a link of the other
pub record HasAll (one two : Links) : Type 0 where
  pub count : one.count ≡ two.count
  pub start_root : (b : ℕ) → one.start_root b → two.start_root b
  pub root : (b : ℕ) → one.root b → two.root b
  pub start_edge : (a b : ℕ) → one.start_edge a b → two.start_edge a b
  pub edge : (a b : ℕ) → one.edge a b → two.edge a b

reachable_on : (one two : Links) → HasAll one two → (b : ℕ) → IsReachable one b → IsReachable two b
reachable_on one two h b r =
    reached_map one.start_root two.start_root one.start_edge two.start_edge h.start_root h.start_edge b r

found_on : (one two : Links) → HasAll one two → (b : ℕ) → IsFound one b → IsFound two b
found_on one two h b r = reached_map one.root two.root one.edge two.edge h.root h.edge b r

lost_on : (one two : Links) → HasAll one two → HasAll two one → (b : ℕ) → IsLost one b → IsLost two b
lost_on one two h back b l = (subst (λ (n : ℕ). b < n) h.count l.0, λ f. l.1 (found_on two one back b f))

lost_edge_on : (one two : Links) → HasAll one two → HasAll two one → (a b : ℕ) → LostEdge one a b → LostEdge two a b
lost_edge_on one two h back a b e = (lost_on one two h back a e.0, lost_on one two h back b e.1, h.edge a b e.2)

lost_path_on : (one two : Links) → HasAll one two → HasAll two one → (a b : ℕ) → HasPath (LostEdge one) a b
    → HasPath (LostEdge two) a b
lost_path_on one two h back a b p = path_map (LostEdge one) (LostEdge two) (lost_edge_on one two h back) a b p

held_on : (one two : Links) → HasAll one two → HasAll two one → (b c : ℕ) → IsHeldBy one b c → IsHeldBy two b c
held_on one two h back b c held = (
  lost_on one two h back c held.0,
  held.1,
  lost_path_on one two h back c b held.2,
  elim held.3 [ inl none ↦ inl (λ p. none (lost_path_on two one back h b c p)) | inr less ↦ inr less ],
)

pub kind_on : (one two : Links) → HasAll one two → HasAll two one → (b : ℕ) (kind : LeakKind) → HasKind one b kind
    → HasKind two b kind
kind_on one two h back b Reachable k = reachable_on one two h b k
kind_on one two h back b Possible k = (found_on one two h b k.0, λ r. k.1 (reachable_on two one back b r))
kind_on one two h back b Indirect k = (lost_on one two h back b k.0, (k.1.0, held_on one two h back b k.1.0 k.1.1))
kind_on one two h back b Definite k = (lost_on one two h back b k.0, λ c held. k.1 c (held_on two one back h b c held))
