-- What is chosen to be any, as tests of positions and addresses.
use Rattle.std.specs.Prelude.{ℕ, ◌+◌, ◌==◌, ◌&&◌, nat_le, nat_lt, Bool, List, [], ◌∷◌, Option, Some, None}
use Rattle.std.specs.List.{list_any}
use Rattle.shadow_memory.specs.Ranges.{is_in, offset}
use Rattle.run_values.specs.declared.span.Span.{Span}
use Rattle.any_runs.specs.Secrets.{Secrets}
use Rattle.any_verdicts.specs.declared.any_bytes.AnyBytes.{AnyBytes}
use Rattle.any_verdicts.specs.declared.any_bytes.Reveal.{Reveal}

-- is a position among as many from one on?
abbrev pub is_at : ℕ → ℕ → ℕ → Bool
is_at start len position = nat_le start position && nat_lt position (start + len)

-- is it in one of some ranges?
abbrev pub has_position : List Span → ℕ → Bool
has_position spans position = list_any (λ (span : Span). is_at span.start span.len position) spans

-- does an address have a byte from one of some positions, where as many bytes from a position on lie from an address
-- on?
abbrev pub given_in : List Span → ℕ → ℕ → ℕ → ℕ → Bool
given_in spans from count start a = is_in start count a && has_position spans (from + offset start a)

-- is an address in one of some ranges?
abbrev pub has_address : List Span → ℕ → Bool
has_address spans a = list_any (λ (span : Span). is_in span.start span.len a) spans

-- is it revealed just before step k?
abbrev pub is_revealed : List Reveal → ℕ → ℕ → Bool
is_revealed reveals k a = list_any (λ (r : Reveal). (r.step == k) && is_in r.span.start r.span.len a) reveals

-- a list of the one that there is, or of none
abbrev pub listed : {X : Type 0} → Option X → List X
listed (Some x) = x ∷ []
listed None = []

-- what bytes that are chosen stand for
unfoldable pub secrets_of : AnyBytes → Secrets
secrets_of bytes =
    record {
      input = has_position bytes.input.items;
      memory = has_address bytes.memory.items;
      revealed = is_revealed bytes.revealed.items;
    }
