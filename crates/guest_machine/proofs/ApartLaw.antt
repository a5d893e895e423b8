-- A step does the same in states that differ in bytes that it doesn't touch, under setups that differ in input that was
-- read.
use Rattle.std.proofs.Common.{◌≡◌, ap, sym, ◌∙◌, subst}
use Rattle.guest_machine.specs.Exec.{exec}
use Rattle.guest_machine.specs.Laws.{DifferWithin, KeepsApart, TouchesNone, Within}
use Rattle.guest_machine.proofs.PokeLaw.{stays}
use Rattle.guest_machine.proofs.SetupLaw.{rest-same}
use Rattle.guest_machine.proofs.WordLaw.{keeps-bytes}

pub keeps-apart : KeepsApart
keeps-apart inside one other s t d differ avoids =
    let first = rest-same one other s d in
    let avoid : TouchesNone (Within inside) s other = λ a w. sym (ap (λ f. f a) first.0) ∙ avoids a w in
    let law = keeps-bytes (Within inside) other s t differ avoid in
    record {
      touches = first.0 ∙ law.0;
      differ = subst (λ x. DifferWithin (Within inside) x (exec t other)) (sym first.1) law.1;
      left = λ a w. stays other t a (sym (ap (λ f. f a) law.0) ∙ avoid a w);
    }
