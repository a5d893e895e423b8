-- The suppression that a session's command `supp add KIND WORDS..` adds: the same kinds and frame lines as in a text,
-- separated by one space. The parameter of Param and the leak kinds of Leak come first.
use Rattle.std.specs.Prelude.{◌≡◌, ℕ, ◌⊎◌, true, nat_eq, List, [], ◌∷◌, drop, Option, Some, None, Result, Ok, Err}
use Rattle.std.specs.Prelude.{if◌then◌else◌, option_and_then, codes}
use Rattle.std.specs.List.{starts_with}
use Rattle.std.specs.Str.{bytes_eq}
use Rattle.suppressions.specs.declared.fault.SuppFault.{SuppFault}
use Rattle.suppressions.specs.declared.fault.SuppFault.TheVariants.{Memory, BadSuppression}
use Rattle.suppressions.specs.declared.subject.Subject.{Subject}
use Rattle.suppressions.specs.declared.subject.Subject.TheVariants.{Parameter, Leak}
use Rattle.texts.specs.Parts.{parts}
use Rattle.suppressions.specs.Rules.{Rule}
use Rattle.suppressions.specs.Words.{are_frames, frames_among, plain_subject, leak_kinds, each_kind}

-- a subject and frame lines
unfoldable pub framed : Subject → List (List ℕ) → Option Rule
framed subject words =
    if are_frames words then Some (record { subject = subject; frames = frames_among words; on = true }) else None

-- a parameter's text, and frame lines
abbrev pub parameter_rule : List (List ℕ) → Option Rule
parameter_rule [] = None
parameter_rule (text ∷ words) = framed (Parameter text) words

-- the leak kinds, if they are given, and frame lines
abbrev pub leak_rule : List (List ℕ) → Option Rule
leak_rule [] = framed (Leak each_kind) []
leak_rule (word ∷ words) =
    if starts_with nat_eq word (codes "match-leak-kinds:")
    then option_and_then (λ kinds. framed (Leak kinds) words) (leak_kinds (drop 17 word))
    else framed (Leak each_kind) (word ∷ words)

abbrev pub rule_of_words : List (List ℕ) → Option Rule
rule_of_words [] = None
rule_of_words (kind ∷ words) =
    if bytes_eq kind (codes "Param") then parameter_rule words
    else if bytes_eq kind (codes "Leak") then leak_rule words
    else option_and_then (λ subject. framed subject words) (plain_subject kind)

-- the suppression of the command's arguments, separated by spaces (32), if they are a suppression's
unfoldable pub added : List ℕ → Option Rule
added words = rule_of_words (parts 32 words)

-- a fault of the arguments comes before one for lack of memory
abbrev pub Gives : Option Rule → Result Rule SuppFault → Type 0
Gives None result = result ≡ Err (BadSuppression 1)
Gives (Some rule) result = (result ≡ Ok rule) ⊎ (result ≡ Err Memory)
