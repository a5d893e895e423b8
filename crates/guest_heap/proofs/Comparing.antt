-- Heaps with the same blocks.
use Rattle.std.proofs.Common.{◌≡◌, ℕ, ◌<◌, ◌≤◌, ◌==◌, List, [], ◌∷◌, ◌++◌, Option, Some, None, length, map}
use Rattle.std.proofs.Common.{drop}
use Rattle.std.proofs.Common.{if◌then◌else◌, refl, ap, ap₂, sym, ◌∙◌, inl, inr, arith}
use Rattle.std.proofs.Math.Path.{fun_ext}
use Rattle.std.proofs.lemmas.Bool.{cases_lt}
use Rattle.std.proofs.lemmas.List.{drop-map}
use Rattle.std.specs.Option.{option_map}
use Rattle.std.specs.declared.alloc.Global.{Global}
use Rattle.std.specs.declared.rc.Rc.{Rc}
use Rattle.call_stacks.specs.declared.block.Block.{Block}
use Rattle.guest_heap.specs.Blocks.{Blocks}
use Rattle.guest_heap.specs.Entries.{Entries, block_of}
use Rattle.guest_heap.specs.Runs.{Run, run_entries, values}
use Rattle.guest_heap.specs.States.{AreSound, beginning, shown, slot_of}
use Rattle.guest_heap.specs.declared.entry.Entry.{Entry}

-- without runs, the blocks are those of the tail
pub of-tail : (runs : List Run) (tail : List (Rc Entry Global)) (skipped : ℕ) → length runs ≡ 0
    → map block_of (drop skipped (run_entries runs ++ values tail)) ≡ drop skipped (map block_of (values tail))
of-tail [] tail skipped none = sym (drop-map block_of skipped (values tail))
of-tail (run ∷ runs) tail skipped none = absurd (omega arith)

-- a block that begins at an address, of those at a place
at-start : ℕ → Option Block → Option Block
at-start a None = None
at-start a (Some b) = if b.start == a then Some b else None

begins : (a : ℕ) (entry : Option Entry) → beginning a entry ≡ at-start a (option_map block_of entry)
unfolding at-start
begins a None = refl
begins a (Some e) = refl

-- an entry of a sound table is at a place of the region
none-behind : (begin : ℕ) (live freed : Entries) (queue : List Entry) (first k : ℕ)
    → AreSound begin live freed queue first
    → 33554432 ≤ k → (entry : Option Entry) → live k ≡ entry → option_map block_of entry ≡ None
none-behind begin live freed queue first k sound past None is = refl
none-behind begin live freed queue first k sound past (Some e) is =
    let placed = (sound.lives k e is).placed in
    let start = placed.start in
    let high = placed.high in
    absurd (omega (arith, start, high))

pub same_blocks : (begin begin-there : ℕ) (live others freed freed-there : Entries) (queue queue-there : List Entry)
    (first first-there : ℕ)
    → AreSound begin live freed queue first → AreSound begin-there others freed-there queue-there first-there
    → begin ≡ begin-there
    → ((k : ℕ) → k < 33554432 → option_map block_of (live k) ≡ option_map block_of (others k))
    → map block_of queue ≡ map block_of queue-there → shown begin live queue ≡ shown begin-there others queue-there
same_blocks begin begin-there live others freed freed-there queue queue-there first first-there sound sound-there
    begins-there same queues =
    let alike : (k : ℕ) → option_map block_of (live k) ≡ option_map block_of (others k) = λ k.
    elim (cases_lt k 33554432) [
      | inl inside ↦ same k inside
      | inr past ↦
          none-behind begin live freed queue first k sound past (live k) refl
          ∙ sym (none-behind begin-there others freed-there queue-there first-there k sound-there past (others k) refl)
    ] in
    let lives : (λ a. beginning a (live (slot_of begin a))) ≡ (λ a. beginning a (others (slot_of begin a))) =
    fun_ext (λ a.
    begins a (live (slot_of begin a)) ∙ ap (at-start a) (alike (slot_of begin a))
    ∙ sym (begins a (others (slot_of begin a)))) in
    let blocks : (ℕ → Option Block) → List Block → Blocks = λ l q. record { begin = begin; live = l; queue = q } in
    ap₂ blocks lives queues ∙ ap (λ n. shown n others queue-there) begins-there
