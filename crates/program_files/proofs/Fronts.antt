-- The first bytes of a file, of which one more than a limit is read.
use Rattle.std.proofs.Common.{◌≡◌, ◌∙◌, ℕ, ◌+◌, ◌<◌, ◌≤◌, List, [], Option, Some, length, take, ap, sym, arith, refl}
use Rattle.std.proofs.Common.{subst}
use Rattle.std.proofs.lemmas.List.{length-take, take_all}
use Rattle.scenario.specs.Limits.{longest_input}
use Rattle.program_files.specs.Files.{Giving, IsFront, HasInput, HasRules, NoInput, NoRules, longest_text}
use Rattle.exit_status.specs.declared.ends.End.TheVariants.{InputTooLarge, Suppressions}
use Rattle.suppressions.specs.Rules.{Rule}
use Rattle.suppressions.specs.Texts.{faults, rules, IsLeast}
use Rattle.suppressions.specs.declared.fault.SuppFault.{SuppFault}
use Rattle.suppressions.specs.declared.fault.SuppFault.TheVariants as Supp

-- where they are no more than the limit, the bytes are
pub short : (limit : ℕ) (bytes front : List ℕ) → front ≡ take (limit + 1) bytes → length front ≤ limit
    → length bytes ≤ limit
short limit bytes front is fits = omega (arith, length-take (limit + 1) bytes, ap length is)

-- and are then all of them
pub whole : (limit : ℕ) (bytes front : List ℕ) → front ≡ take (limit + 1) bytes → length front ≤ limit → front ≡ bytes
whole limit bytes front is fits =
    let small : length bytes ≤ limit = short limit bytes front is fits in
    is ∙ take_all (limit + 1) bytes (omega arith)

-- where they are more than the limit, the bytes are
pub long : (limit : ℕ) (bytes front : List ℕ) → front ≡ take (limit + 1) bytes → limit < length front
    → limit < length bytes
long limit bytes front is more = omega (arith, length-take (limit + 1) bytes, ap length is)

-- a file that is no longer than the limit gives what was read of it
pub given : (gives : Giving) (path : List ℕ) (limit : ℕ) (front : List ℕ) → IsFront gives path limit front
    → length front ≤ limit → gives path (Some front)
given gives path limit front (bytes, gave, is) fits =
    subst (λ (xs : List ℕ). gives path (Some xs)) (sym (whole limit bytes front is fits)) gave

pub has-input : (gives : Giving) (named : Option (List ℕ)) (path front : List ℕ) → named ≡ Some path
    → IsFront gives path longest_input front
    → length front ≤ longest_input → HasInput gives named front
has-input gives named path front is read fits =
    subst (λ (option : Option (List ℕ)). HasInput gives option front) (sym is)
    (given gives path longest_input front read fits, fits)

pub large-input : (gives : Giving) (named : Option (List ℕ)) (path front : List ℕ) → named ≡ Some path
    → IsFront gives path longest_input front
    → longest_input < length front → NoInput gives named InputTooLarge
large-input gives named path front is (bytes, gave, told) more =
    subst (λ (option : Option (List ℕ)). NoInput gives option InputTooLarge) (sym is)
    (bytes, gave, long longest_input bytes front told more)

pub has-rules : (gives : Giving) (named : Option (List ℕ)) (path text : List ℕ) (list : List Rule) → named ≡ Some path
    → gives path (Some text)
    → length text ≤ longest_text → faults text ≡ [] → list ≡ rules text → HasRules gives named list
has-rules gives named path text list is gave fits none are =
    subst (λ (option : Option (List ℕ)). HasRules gives option list) (sym is) (text, gave, fits, none, are)

pub bad-text : (gives : Giving) (named : Option (List ℕ)) (path text : List ℕ) (fault : SuppFault) → named ≡ Some path
    → gives path (Some text)
    → length text ≤ longest_text → ((line : ℕ) → fault ≡ Supp.BadSuppression line → IsLeast line (faults text))
    → NoRules gives named (Suppressions fault)
bad-text gives named path text Supp.Memory is gave fits least =
    subst (λ (option : Option (List ℕ)). NoRules gives option (Suppressions Supp.Memory)) (sym is) (text, gave, fits)
bad-text gives named path text (Supp.BadSuppression line) is gave fits least =
    subst (λ (option : Option (List ℕ)). NoRules gives option (Suppressions (Supp.BadSuppression line))) (sym is)
    (text, gave, fits, least line refl)
