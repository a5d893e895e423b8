-- From the gathered pointers to the links of the scene.
use Rattle.std.proofs.Common.{◌≡◌, ℕ, ◌<◌, ◌⊎◌, inl, inr, List, [], Bool, Option, true, false, Some, length, get_or}
use Rattle.std.proofs.Common.{take, drop, ◌++◌, arith, refl, sym, ◌∙◌, subst, ap, slice_get}
use Rattle.std.proofs.lemmas.Bool.{false≢true}
use Rattle.std.proofs.Math.Seq.{take-append_seam}
use Rattle.std.proofs.lemmas.Option.{none-some, slice_get-get_or, slice_get_within}
use Rattle.std.proofs.lemmas.List.Elements.{Contains-get_or}
use Rattle.std.specs.declared.vec.Vec.{Vec}
use Rattle.std.specs.declared.alloc.Global.{Global}
use Rattle.call_stacks.specs.declared.block.Block.{Block}
use Rattle.leak_graph.specs.declared.graph.Pointer.{Pointer}
use Rattle.leak_graph.specs.declared.leak_kind.LeakKind.{LeakKind}
use Rattle.leak_graph.specs.Graphs.{HasPointer, HasEdge, GoWithin, AllGoWithin, links_of}
use Rattle.leak_graph.specs.Leaks.{HasKind}
use Rattle.leak_search.specs.declared.record.LeakRecord.{LeakRecord}
use Rattle.leak_search.specs.Pointing.{PointsTo}
use Rattle.leak_search.specs.Search.{Scene, RootPointsTo, BlockPointsTo, links_in, AreRecordsIn}
use Rattle.leak_search.specs.Gathering.{Gains, EdgesGain, RootAny, RegisterBelow, HasNoEdge, AreRecordsBy}
use Rattle.leak_search.proofs.GatherSteps.{gains_then, gains_as}
use Rattle.leak_search.specs.Words.{word_at}
use Rattle.leak_search.specs.Records.{AreRecordsOf}
use Rattle.definedness.specs.declared.Bits.{Bits}
use Rattle.guest_machine.specs.State.{State}
use Rattle.guest_machine.specs.Registers.{register}
use Rattle.guest_heap.specs.Steps.{live_list}
use Rattle.leak_search.proofs.SameKinds.{HasAll, kind_on}

-- registers and words together are the roots
pub roots_join : (scene : Scene) (old mid new : List Pointer)
    → Gains (RegisterBelow scene.register scene.blocks 32) old mid
    → Gains (RootAny scene.word scene.blocks) mid new → Gains (RootPointsTo scene) old new
roots_join scene old mid new p q =
    gains_as (λ starts b. RegisterBelow scene.register scene.blocks 32 starts b
    ⊎ RootAny scene.word scene.blocks starts b) (RootPointsTo scene) old new
    (λ starts b t. elim t [
      | inl r ↦ ((scene.register r.0).value, inl (r.0, r.1, r.2, r.3, refl), r.4)
      | inr w ↦ (w.0, inr w.1, w.2)
    ])
    (λ starts b t. elim t.1 [
      | inl r ↦ inl (r.0, r.1, r.2, r.3, subst (λ (x : ℕ). PointsTo starts scene.blocks x b) (sym r.4) t.2)
      | inr w ↦ inr (t.0, w, t.2)
    ])
    (gains_then (RegisterBelow scene.register scene.blocks 32) (RootAny scene.word scene.blocks) old mid new p q)

-- what held no edge holds as many as nothing
pub edges_fresh : (target : Bool → ℕ → ℕ → Type 0) (old new : List (Vec Pointer Global)) → HasNoEdge old
    → EdgesGain target old new → EdgesGain target [] new
edges_fresh target old new none p = record {
  keeps = λ starts a b h. absurd (none-some h.0 h.1);
  gains = p.gains;
  sound = λ starts a b h. elim (p.sound starts a b h) [ inl o ↦ absurd (none starts a b o) | inr t ↦ inr t ];
}

no_pointer : (starts : Bool) (b : ℕ) → HasPointer starts [] b → ⊥
no_pointer starts b h = let less = h.1.1 in omega arith

pub target_of : (target : Bool → ℕ → Type 0) (pointers : List Pointer) → Gains target [] pointers
    → (starts : Bool) (b : ℕ) → HasPointer starts pointers b → target starts b
target_of target pointers p starts b h =
    elim (p.sound starts b h) [ inl o ↦ absurd (no_pointer starts b o) | inr t ↦ t ]

pub edge_of : (target : Bool → ℕ → ℕ → Type 0) (edges : List (Vec Pointer Global)) → EdgesGain target [] edges
    → (starts : Bool) (a b : ℕ) → HasEdge starts edges a b → target starts a b
edge_of target edges p starts a b h = elim (p.sound starts a b h) [ inl o ↦ absurd (none-some o.0 o.1) | inr t ↦ t ]

itself : (pointers : List Pointer) (k : ℕ) (d : Pointer) → k < length pointers
    → HasPointer false pointers (get_or pointers k d).block
itself pointers k d h = (get_or pointers k d, Contains-get_or pointers k d h, (refl, λ e. absurd (false≢true e)))

pub roots_within : (scene : Scene) (roots : List Pointer) (n : ℕ) → length scene.blocks ≡ n
    → Gains (RootPointsTo scene) [] roots → GoWithin roots n
roots_within scene roots n len p k d h =
    let t = target_of (RootPointsTo scene) roots p false (get_or roots k d).block (itself roots k d h) in
    let within = slice_get_within scene.blocks (get_or roots k d).block t.2.0 t.2.1 in
    omega arith

pub edges_within : (scene : Scene) (edges : List (Vec Pointer Global)) (n : ℕ) → length scene.blocks ≡ n
    → EdgesGain (BlockPointsTo scene) [] edges → AllGoWithin edges n
edges_within scene edges n len p k d h i e less =
    let row = get_or edges k d in
    let b = (get_or row.items i e).block in
    let t = edge_of (BlockPointsTo scene) edges p false k b
    (row, slice_get-get_or edges k d h, itself row.items i e less) in
    let within = slice_get_within scene.blocks b t.2.0 t.2.1 in
    omega arith

-- the kinds by the graph are those by the scene
pub joined : (scene : Scene) (roots : List Pointer) (edges : List (Vec Pointer Global))
    → length edges ≡ length scene.blocks
    → Gains (RootPointsTo scene) [] roots → EdgesGain (BlockPointsTo scene) [] edges
    → (b : ℕ) (kind : LeakKind) → HasKind (links_of roots edges) b kind → HasKind (links_in scene) b kind
unfolding links_of links_in
joined scene roots edges len p q b kind k =
    let to : HasAll (links_of roots edges) (links_in scene) = record {
      count = len;
      start_root = target_of (RootPointsTo scene) roots p true;
      root = target_of (RootPointsTo scene) roots p false;
      start_edge = edge_of (BlockPointsTo scene) edges q true;
      edge = edge_of (BlockPointsTo scene) edges q false;
    } in
    let back : HasAll (links_in scene) (links_of roots edges) = record {
      count = sym len;
      start_root = p.gains true;
      root = p.gains false;
      start_edge = q.gains true;
      edge = q.gains false;
    } in
    kind_on (links_of roots edges) (links_in scene) to back b kind k

pub all_records : (scene : Scene) (blocks : List Block) (roots : List Pointer) (edges : List (Vec Pointer Global))
    (kinds : List LeakKind) (entries : List LeakRecord)
    → blocks ≡ scene.blocks → length edges ≡ length blocks
    → Gains (RootPointsTo scene) [] roots → EdgesGain (BlockPointsTo scene) [] edges
    → ((b : ℕ) (kind : LeakKind) → slice_get kinds b ≡ Some kind → HasKind (links_of roots edges) b kind)
    → AreRecordsBy blocks kinds entries (length blocks) → AreRecordsIn scene entries
all_records scene blocks roots edges kinds entries e len p q each by = record {
  len = by.len ∙ ap (λ x. length x) e;
  each = λ k entry at.
      (let w = by.each k entry at in
      record {
        block = w.block;
        at = subst (λ (bs : List Block). slice_get bs k ≡ Some w.block) e w.at;
        start = w.start;
        size = w.size;
        trace = w.trace;
        kind = joined scene roots edges (len ∙ ap (λ x. length x) e) p q k entry.kind (each k entry.kind w.kind);
      });
}

-- what is written back to a vector that was lent as a slice
pub edges_back : (target : Bool → ℕ → ℕ → Type 0) (n : ℕ) (old new : List (Vec Pointer Global)) → n ≡ length new
    → HasNoEdge old
    → EdgesGain target old new → EdgesGain target [] (take n (new ++ drop (length new) old))
edges_back target n old new e none p =
    let same : take n (new ++ drop (length new) old) ≡ new = rw e (take-append_seam new (drop (length new) old)) in
    subst (λ (xs : List (Vec Pointer Global)). EdgesGain target [] xs) (sym same) (edges_fresh target old new none p)

-- a scene by its parts
abbrev seen : (ℕ → Option ℕ) → (ℕ → Bits) → List Block → Scene
seen word register blocks = record { word = word; register = register; blocks = blocks }

root_on : (word : ℕ → Option ℕ) (one two : ℕ → Bits) (blocks : List Block) → ((r : ℕ) → r < 32 → one r ≡ two r)
    → (starts : Bool) (b : ℕ) → RootPointsTo (seen word one blocks) starts b
    → RootPointsTo (seen word two blocks) starts b
root_on word one two blocks same starts b t = (
  t.0,
  elim t.1 [
    | inl r ↦ inl (
      r.0,
      r.1,
      r.2,
      ap (λ x. x.undef) (sym (same r.0 r.2)) ∙ r.3,
      ap (λ x. x.value) (sym (same r.0 r.2))
          ∙ r.4,
    )
    | inr w ↦ inr w
  ],
  t.2,
)

links_on : (word : ℕ → Option ℕ) (one two : ℕ → Bits) (blocks : List Block) → ((r : ℕ) → r < 32 → one r ≡ two r)
    → HasAll (links_in (seen word one blocks)) (links_in (seen word two blocks))
unfolding links_in
links_on word one two blocks same = record {
  count = refl;
  start_root = root_on word one two blocks same true;
  root = root_on word one two blocks same false;
  start_edge = λ a b e. e;
  edge = λ a b e. e;
}

-- of the registers only x0 to x31 count
records_on : (word : ℕ → Option ℕ) (one two : ℕ → Bits) (blocks : List Block) (entries : List LeakRecord)
    → ((r : ℕ) → r < 32 → one r ≡ two r)
    → AreRecordsIn (seen word one blocks) entries → AreRecordsIn (seen word two blocks) entries
records_on word one two blocks entries same p =
    let to = links_on word one two blocks same in
    let back = links_on word two one blocks (λ r less. sym (same r less)) in
    record {
      len = p.len;
      each = λ k entry at.
          (let w = p.each k entry at in
          record {
            block = w.block;
            at = w.at;
            start = w.start;
            size = w.size;
            trace = w.trace;
            kind =
                kind_on (links_in (seen word one blocks)) (links_in (seen word two blocks)) to back k entry.kind w.kind;
          });
    }

-- the records of a scene with all that a state has are the state's
pub records_of : (s : State) (word : ℕ → Option ℕ) (registers : ℕ
    → Bits) (blocks : List Block) (entries : List LeakRecord)
    → word ≡ word_at s.bytes s.core.shadow → ((r : ℕ) → r < 32 → registers r ≡ register s.core r)
    → blocks ≡ live_list s.core.blocks
    → AreRecordsIn (seen word registers blocks) entries → AreRecordsOf s entries
unfolding AreRecordsOf
records_of s word registers blocks entries words same all p =
    let first = subst (λ (x : ℕ → Option ℕ). AreRecordsIn (seen x registers blocks) entries) words p in
    let second = subst (λ (x : List Block). AreRecordsIn (seen (word_at s.bytes s.core.shadow) registers x) entries) all
    first in
    records_on (word_at s.bytes s.core.shadow) registers (register s.core) (live_list s.core.blocks) entries same second
