use Rattle.std.proofs.Common.{◌≡◌, ◌∙◌, ap, sym, ℕ, true, ◌||◌, List, [], ◌∷◌, nat_eq}
use Rattle.std.specs.List.{starts_with}
use Rattle.file_heaps.specs.Names.{has_part}
use Rattle.file_heaps.proofs.searching.has_part.Goals as goal

-- a name that begins with some bytes has them in it
begins : (part name : List ℕ) → starts_with nat_eq name part ≡ true → has_part part name ≡ true
unfolding has_part
begins part [] is = is
begins part (byte ∷ rest) is = ap (λ b. b || has_part part rest) is

pub returns-then-starts_with : goal.returns-then-starts_with
returns-then-starts_with c =
    sym (begins c.args.part.now c.loop-rest.rest.now (sym c.starts_with.ensures.value ∙ c.if-starts_with.true))
    ∙ c.loop-rest.invariant
