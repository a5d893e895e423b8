-- The words of a suppression: kinds and leak kinds (Memcheck manual, section 4.4), frames (Valgrind user manual,
-- section 2.5).
use Rattle.std.specs.Prelude.{ℕ, Bool, true, false, ◌||◌, nat_eq, List, [], ◌∷◌, drop, Option, Some, None, is_some}
use Rattle.std.specs.Prelude.{if◌then◌else◌, option_and_then, codes}
use Rattle.std.specs.List.{list_all, starts_with, filter_map}
use Rattle.std.specs.Str.{bytes_eq}
use Rattle.suppressions.specs.declared.frames.FrameLine.{FrameLine}
use Rattle.suppressions.specs.declared.frames.FrameLine.TheVariants.{Function, Object, AnyFrames, Source}
use Rattle.suppressions.specs.declared.leak_kinds.LeakKinds.{LeakKinds}
use Rattle.suppressions.specs.declared.subject.Subject.{Subject}
use Rattle.suppressions.specs.declared.subject.Subject.TheVariants.{Access, Value, Condition, Release, Jump}
use Rattle.texts.specs.Parts.{parts}

-- a frame line, if a word is one
unfoldable pub frame_of : List ℕ → Option FrameLine
frame_of word =
    if bytes_eq word (codes "...") then Some AnyFrames
    else if starts_with nat_eq word (codes "fun:") then Some (Function (drop 4 word))
    else if starts_with nat_eq word (codes "obj:") then Some (Object (drop 4 word))
    else if starts_with nat_eq word (codes "src:") then Some Source
    else None

-- the leak kinds that one word of a list names, if it is a word of such a list; `none` names no kind
unfoldable pub kinds_of_word : List ℕ → Option LeakKinds
kinds_of_word word =
    if bytes_eq word (codes "definite")
    then Some (record { definite = true; indirect = false; possible = false; reachable = false })
    else if bytes_eq word (codes "indirect")
    then Some (record { definite = false; indirect = true; possible = false; reachable = false })
    else if bytes_eq word (codes "possible")
    then Some (record { definite = false; indirect = false; possible = true; reachable = false })
    else if bytes_eq word (codes "reachable")
    then Some (record { definite = false; indirect = false; possible = false; reachable = true })
    else if bytes_eq word (codes "all")
    then Some (record { definite = true; indirect = true; possible = true; reachable = true })
    else if bytes_eq word (codes "none")
    then Some (record { definite = false; indirect = false; possible = false; reachable = false })
    else None

-- the kinds that are in either of two sets
abbrev pub union : LeakKinds → LeakKinds → LeakKinds
union a b = record {
  definite = a.definite || b.definite;
  indirect = a.indirect || b.indirect;
  possible = a.possible || b.possible;
  reachable = a.reachable || b.reachable;
}

-- the kinds that some words name, and others, if each is a word of such a list
abbrev pub kinds_beside : LeakKinds → List (List ℕ) → Option LeakKinds
kinds_beside kinds [] = Some kinds
kinds_beside kinds (word ∷ words) = option_and_then (λ more. kinds_beside (union kinds more) words) (kinds_of_word word)

-- the kinds of a list whose words are separated by commas
unfoldable pub leak_kinds : List ℕ → Option LeakKinds
leak_kinds list =
    kinds_beside (record { definite = false; indirect = false; possible = false; reachable = false }) (parts 44 list)

-- is each of some words a frame line?
abbrev pub are_frames : List (List ℕ) → Bool
are_frames words = list_all (λ word. is_some (frame_of word)) words

-- the frame lines among words
abbrev pub frames_among : List (List ℕ) → List FrameLine
frames_among words = filter_map frame_of words

-- what a kind that has no extra line is for
unfoldable pub plain_subject : List ℕ → Option Subject
plain_subject kind =
    if bytes_eq kind (codes "Addr1") then Some (Access 1)
    else if bytes_eq kind (codes "Addr2") then Some (Access 2)
    else if bytes_eq kind (codes "Addr4") then Some (Access 4)
    else if bytes_eq kind (codes "Value4") then Some Value
    else if bytes_eq kind (codes "Cond") then Some Condition
    else if bytes_eq kind (codes "Free") then Some Release
    else if bytes_eq kind (codes "Jump") then Some Jump
    else None

-- all leak kinds
abbrev pub each_kind : LeakKinds
each_kind = record { definite = true; indirect = true; possible = true; reachable = true }
