use Rattle.std.proofs.Common.{◌≡◌, ◌∙◌, ◌+◌, ◌/◌, ◌%◌, ℕ, Option, None, Some, IfSome, ap, arith, sym}
use Rattle.shadow_memory.specs.Loads.{loaded_at}
use Rattle.shadow_memory.specs.Memories.{cells_of}
use Rattle.shadow_memory.specs.Ranges.{above}
use Rattle.shadow_memory.specs.Views.{cells_seen}
use Rattle.shadow_memory.specs.declared.cells.Loaded.{Loaded}
use Rattle.shadow_memory.proofs.Loading.{same-load}
use Rattle.shadow_memory.proofs.memory.Memory.defined_at.Goals as goal

-- what is loaded of a number that is defined
abbrev whole : ℕ → Loaded
whole value = record { value = value; undef = 0; bad = None }

-- what is so of each address is so of another number of bytes that is the same
moved : (r : Option ℕ) (addr : ℕ) (before after : ℕ → Loaded) → before addr ≡ after addr
    → IfSome r (λ value. (a : ℕ) → before a ≡ whole value) → IfSome r (λ value. after addr ≡ whole value)
moved None addr before after same is = tt
moved (Some value) addr before after same is = sym same ∙ is addr

pub returns-then-place-n-le-PAGE-clause-value : goal.returns-then-place-n-le-PAGE-clause-value
returns-then-place-n-le-PAGE-clause-value c =
    let seen = λ (i : ℕ). cells_seen c.view.result (c.args.addr % 4096 + i) in
    let held = λ (i : ℕ). cells_of c.args.self.now (above c.args.addr i) in
    moved c.defined.result c.args.addr (λ a. loaded_at seen a c.args.n) (λ a. loaded_at held a c.args.n)
    (same-load seen held c.args.addr c.args.n c.requires (λ i below.
    let page : above c.args.addr i / 4096 ≡ c.args.addr / 4096 = omega arith in
    let place : above c.args.addr i % 4096 ≡ c.args.addr % 4096 + i = omega arith in
    sym (c.view.ensures (above c.args.addr i) page ∙ ap (cells_seen c.view.result) place)))
    c.defined.ensures.value
