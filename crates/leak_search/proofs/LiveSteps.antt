-- The live blocks one after another, and the lists of no pointers.
use Rattle.std.proofs.Common.{◌≡◌, ℕ, zero, suc, ◌+◌, ◌<◌, ◌≤◌, max, ◌⊎◌, inl, inr, List, [], ◌∷◌, ◌++◌, Some, None}
use Rattle.std.proofs.Common.{length, append_assoc, append-nil, arith, refl, sym, ◌∙◌, subst, ap, slice_get}
use Rattle.std.proofs.lemmas.Option.{same_Some, none-some, slice_get_within}
use Rattle.std.specs.declared.vec.Vec.{Vec}
use Rattle.std.specs.declared.alloc.Global.{Global}
use Rattle.call_stacks.specs.declared.block.Block.{Block}
use Rattle.guest_heap.specs.Blocks.{Blocks, IsFirstLive, high_end, low_end}
use Rattle.guest_heap.specs.Steps.{AreInRegion, AreApart, live_from, live_list, live_above}
use Rattle.guest_heap.specs.Laws.{LiveGoesOn}
use Rattle.leak_graph.specs.declared.graph.Pointer.{Pointer}
use Rattle.leak_graph.specs.Graphs.{HasPointer}
use Rattle.leak_search.specs.Gathering.{AreOrdered, GoesOn, HasNoEdge}

pub row_push : {X : Type 0} (xs : List X) (last : X) (a : ℕ) (x : X) → slice_get (xs ++ last ∷ []) a ≡ Some x
    → (slice_get xs a ≡ Some x) ⊎ ((a ≡ length xs) × (last ≡ x))
row_push [] last zero x e = inr (refl, same_Some last x e)
row_push [] last (suc a) x e = absurd (none-some x e)
row_push (k ∷ xs) last zero x e = inl e
row_push (k ∷ xs) last (suc a) x e = elim (row_push xs last a x e) [ inl old ↦ inl old | inr w ↦ inr (ap suc w.0, w.1) ]

-- the blocks found so far: with those from an address on they are all, and they rise below it
pub record FoundBelow (blocks : Blocks) (found : List Block) (from : ℕ) : Type 0 where
  pub rest : found ++ live_above blocks from ≡ live_list blocks
  pub under : (k : ℕ) (b : Block) → slice_get found k ≡ Some b → b.start < from
  pub there : (k : ℕ) (b : Block) → slice_get found k ≡ Some b → blocks.live b.start ≡ Some b
  pub order : (j k : ℕ) (a b : Block) → j < k → slice_get found j ≡ Some a → slice_get found k ≡ Some b
      → a.start < b.start

pub found_start : (blocks : Blocks) → LiveGoesOn → FoundBelow blocks [] 0
found_start blocks law = record {
  rest = law.all blocks;
  under = λ k b at. absurd (none-some b at);
  there = λ k b at. absurd (none-some b at);
  order = λ j k a b less at other. absurd (none-some a at);
}

found_order : (found : List Block) (block : Block)
    → ((k : ℕ) (b : Block) → slice_get found k ≡ Some b → b.start < block.start)
    → ((j k : ℕ) (a b : Block) → j < k → slice_get found j ≡ Some a → slice_get found k ≡ Some b → a.start < b.start)
    → (j k : ℕ) (a b : Block) → j < k → slice_get (found ++ block ∷ []) j ≡ Some a
    → slice_get (found ++ block ∷ []) k ≡ Some b → a.start < b.start
found_order found block under order j k a b less x y =
    elim (row_push found block j a x) [
      | inl first ↦ elim (row_push found block k b y) [
        | inl second ↦ order j k a b less first second
        | inr last ↦ subst (λ (z : Block). a.start < z.start) last.1 (under j a first)
      ]
      | inr past ↦
          let at = past.0 in
          elim (row_push found block k b y) [
            | inl second ↦ (let within = slice_get_within found k b second in absurd (omega arith))
            | inr last ↦ (let also = last.0 in absurd (omega arith))
          ]
    ]

pub found_step : (blocks : Blocks) (found : List Block) (from : ℕ) (block : Block) → LiveGoesOn → AreInRegion blocks
    → live_from blocks from ≡ Some block → IsFirstLive blocks.live from block
    → FoundBelow blocks found from → FoundBelow blocks (found ++ block ∷ []) (block.start + 1)
found_step blocks found from block law region e f s =
    let above = f.above in
    record {
      rest =
          append_assoc found (block ∷ []) (live_above blocks (block.start + 1))
          ∙ ap (λ x. found ++ x) (sym (law.some blocks from block region e))
          ∙ s.rest;
      under = λ k b at. elim (row_push found block k b at) [
        | inl old ↦ (let low = s.under k b old in omega arith)
        | inr last ↦ subst (λ (z : Block). z.start < block.start + 1) last.1 (omega arith)
      ];
      there = λ k b at. elim (row_push found block k b at) [
        | inl old ↦ s.there k b old
        | inr last ↦ subst (λ (z : Block). blocks.live z.start ≡ Some z) last.1 f.there
      ];
      order = found_order found block (λ k b at. (let low = s.under k b at in omega arith)) s.order;
    }

pub found_next : (blocks : Blocks) (old new : List Block) (from next : ℕ) → LiveGoesOn → AreInRegion blocks
    → GoesOn blocks from (Some next) old new → FoundBelow blocks old from → FoundBelow blocks new next
found_next blocks old new from next law region g s =
    let step = found_step blocks old from g.0 law region g.1 g.2 s in
    let here : FoundBelow blocks (old ++ g.0 ∷ []) next = subst (λ (x : ℕ). FoundBelow blocks (old ++ g.0 ∷ []) x)
    (sym g.3) step in
    subst (λ (x : List Block). FoundBelow blocks x next) (sym g.4) here

pub found_end : (blocks : Blocks) (found : List Block) (from : ℕ) → LiveGoesOn → live_from blocks from ≡ None
    → FoundBelow blocks found from → found ≡ live_list blocks
found_end blocks found from law e s =
    sym (append-nil found) ∙ ap (λ x. found ++ x) (sym (law.none blocks from e)) ∙ s.rest

clear_below : (a b : Block) → a.start < b.start → high_end a ≤ low_end b → a.start + a.size ≤ b.start
clear_below a b less h = omega (max, arith)

clear_above : (a b : Block) → a.start < b.start → high_end b ≤ low_end a → ⊥
clear_above a b less h = omega (max, arith)

-- the blocks that were found lie apart, in order
pub found_ordered : (blocks : Blocks) (found : List Block) (from : ℕ) → AreInRegion blocks → AreApart blocks
    → FoundBelow blocks found from → AreOrdered found
found_ordered blocks found from region apart s = record {
  lower = s.order;
  below = λ j k a b less x y.
      (let low = s.order j k a b less x y in
      elim (apart.apart a b (inl (s.there j a x)) (inl (s.there k b y))) [
        | inl e ↦ (let same : a.start ≡ b.start = ap (λ z. z.start) e in absurd (omega arith))
        | inr clear ↦ elim clear [ inl h ↦ clear_below a b low h | inr h ↦ absurd (clear_above a b low h) ]
      ]);
  aligned = λ k b at. (let multiple = (region.live b.start b (s.there k b at)).multiple in omega arith);
  positive = λ k b at. (let some = region.some in
      let low = (region.live b.start b (s.there k b at)).above in omega arith);
}

pub no_edge_more : (edges : List (Vec Pointer Global)) (row : Vec Pointer Global) → row.items ≡ [] → HasNoEdge edges
    → HasNoEdge (edges ++ row ∷ [])
no_edge_more edges row empty none starts a b has =
    elim (row_push edges row a has.0 has.1) [
      | inl old ↦ none starts a b (has.0, old, has.2)
      | inr w ↦
          let blank : HasPointer starts [] b = subst (λ (ps : List Pointer). HasPointer starts ps b)
          (ap (λ r. r.items) (sym w.1) ∙ empty) has.2 in
          let h = blank.1.1 in absurd (omega arith)
    ]
