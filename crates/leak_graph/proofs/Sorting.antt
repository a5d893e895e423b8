-- The kinds that the marks of all blocks say are those of the definition.
use Rattle.std.proofs.Common.{◌≡◌, ℕ, ◌<◌, List, [], ◌∷◌, ◌++◌, zero, suc, Bool, true, false, length, subst, sym, ◌∙◌}
use Rattle.std.proofs.Common.{ap, ◌⊎◌, inl, inr, refl, get_or, replicate, arith, Some, slice_get}
use Rattle.std.proofs.lemmas.Bool.{cases_Bool}
use Rattle.std.proofs.lemmas.List.{length-replicate}
use Rattle.std.proofs.lemmas.Option.{same_Some, none-some, slice_get_within}
use Rattle.std.specs.declared.vec.Vec.{Vec}
use Rattle.std.specs.declared.alloc.Global.{Global}
use Rattle.leak_graph.specs.declared.graph.Pointer.{Pointer}
use Rattle.leak_graph.specs.declared.leak_kind.LeakKind.{LeakKind}
use Rattle.leak_graph.specs.declared.leak_kind.LeakKind.TheVariants.{Reachable}
use Rattle.leak_graph.specs.Graphs.{HasPointer, HasEdge, links_of}
use Rattle.leak_graph.specs.Leaks.{Links, HasKind}
use Rattle.leak_graph.specs.Marks.{Reaches, HeadsOf, DefiniteOf, IsMarked, kind_by, AreBy}
use Rattle.leak_graph.proofs.Deciding.{kind_reachable, kind_possible, kind_definite, kind_indirect}

slice_get_push : (kinds : List LeakKind) (last : LeakKind) (b : ℕ) (kind : LeakKind)
    → slice_get (kinds ++ last ∷ []) b ≡ Some kind
    → (slice_get kinds b ≡ Some kind) ⊎ ((b ≡ length kinds) × (last ≡ kind))
slice_get_push [] last zero kind e = inr (refl, same_Some last kind e)
slice_get_push [] last (suc b) kind e = absurd (none-some kind e)
slice_get_push (k ∷ kinds) last zero kind e = inl e
slice_get_push (k ∷ kinds) last (suc b) kind e =
    elim (slice_get_push kinds last b kind e) [ inl old ↦ inl old | inr w ↦ inr (ap suc w.0, w.1) ]

pub are_by_push : (reachable found definite : List Bool) (kinds : List LeakKind) (last : LeakKind) (i : ℕ)
    → length kinds ≡ i
    → last ≡ kind_by (get_or reachable i false) (get_or found i false) (get_or definite i false)
    → AreBy reachable found definite kinds → AreBy reachable found definite (kinds ++ last ∷ [])
are_by_push reachable found definite kinds last i len says old b kind e =
    elim (slice_get_push kinds last b kind e) [
      | inl before ↦ old b kind before
      | inr w ↦
          let P : ℕ → Type 0 = λ m. kind ≡ kind_by (get_or reachable m false) (get_or found m false)
          (get_or definite m false) in
          let at : i ≡ b = sym len ∙ sym w.0 in
          subst P at (sym w.1 ∙ says)
    ]

-- the kind of one block
kind_right : (links : Links) (reachable found heads definite : List Bool) (b : ℕ)
    → ((a c : ℕ) → links.edge a c → a < links.count)
    → Reaches links.start_root links.start_edge reachable → Reaches links.root links.edge found
    → HeadsOf links.edge links.count found heads → DefiniteOf links.edge heads definite → b < links.count
    → HasKind links b (kind_by (get_or reachable b false) (get_or found b false) (get_or definite b false))
unfolding kind_by
kind_right links reachable found heads definite b within r f of d less =
    let K : Bool → Bool → Bool → Type 0 = λ x y z. HasKind links b (kind_by x y z) in
    elim (cases_Bool (get_or reachable b false)) as
    (λ _. K (get_or reachable b false) (get_or found b false) (get_or definite b false)) [
      | inl yes1 ↦ rw yes1 (kind_reachable links reachable b r yes1)
      | inr not1 ↦ elim (cases_Bool (get_or found b false)) as
          (λ _. K (get_or reachable b false) (get_or found b false) (get_or definite b false)) [
            | inl yes2 ↦ rw (not1, yes2) (kind_possible links reachable found b r f not1 yes2)
            | inr not2 ↦ elim (cases_Bool (get_or definite b false)) as
                (λ _. K (get_or reachable b false) (get_or found b false) (get_or definite b false)) [
                  | inl yes3 ↦ rw (not1, not2, yes3) (kind_definite links found heads definite b within f of d less not2
                      yes3)
                  | inr not3 ↦ rw (not1, not2, not3) (kind_indirect links found heads definite b within f of d less not2
                      not3)
                ]
          ]
    ]

edge_within : (edges : List (Vec Pointer Global)) (a b : ℕ) → HasEdge false edges a b → a < length edges
edge_within edges a b e = slice_get_within edges a e.0 e.1

pub kinds_right : (roots : List Pointer) (edges : List (Vec Pointer Global))
    (reachable found heads definite : List Bool) (kinds : List LeakKind)
    → length kinds ≡ length edges
    → Reaches (HasPointer true roots) (HasEdge true edges) reachable
    → Reaches (HasPointer false roots) (HasEdge false edges) found
    → HeadsOf (HasEdge false edges) (length edges) found heads → DefiniteOf (HasEdge false edges) heads definite
    → AreBy reachable found definite kinds
    → (b : ℕ) (kind : LeakKind) → slice_get kinds b ≡ Some kind → HasKind (links_of roots edges) b kind
unfolding links_of
kinds_right roots edges reachable found heads definite kinds len r f of d by b kind e =
    let less : b < length edges = (let h = slice_get_within kinds b kind e in omega arith) in
    subst (λ (k : LeakKind). HasKind (links_of roots edges) b k) (sym (by b kind e))
    (kind_right (links_of roots edges) reachable found heads definite b (edge_within edges) r f of d less)

slice_get_same : (n : ℕ) (each kind : LeakKind) (b : ℕ) → slice_get (replicate n each) b ≡ Some kind → each ≡ kind
slice_get_same zero each kind b e = absurd (none-some kind e)
slice_get_same (suc n) each kind zero e = same_Some each kind e
slice_get_same (suc n) each kind (suc b) e = slice_get_same n each kind b e

-- where all blocks are marked as reachable
pub all_right : (roots : List Pointer) (edges : List (Vec Pointer Global)) (reachable : List Bool)
    (kinds : List LeakKind) → kinds ≡ replicate (length edges) Reachable
    → ((b : ℕ) → b < length edges → IsMarked reachable b)
    → Reaches (HasPointer true roots) (HasEdge true edges) reachable
    → (b : ℕ) (kind : LeakKind) → slice_get kinds b ≡ Some kind → HasKind (links_of roots edges) b kind
unfolding links_of
all_right roots edges reachable kinds is marked r b kind e =
    let here : slice_get (replicate (length edges) Reachable) b ≡ Some kind = ap (λ (l : List LeakKind). slice_get l b)
    (sym is) ∙ e in
    let within : b < length (replicate (length edges) Reachable) = slice_get_within _ b kind here in
    let less : b < length edges = omega (arith, within, length-replicate (length edges) Reachable) in
    subst (λ (k : LeakKind). HasKind (links_of roots edges) b k) (slice_get_same (length edges) Reachable kind b here)
    (kind_reachable (links_of roots edges) reachable b r (marked b less))
