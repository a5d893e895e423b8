-- The replies to one line after another.
use Rattle.std.specs.Prelude.{ℕ, ◌≡◌, ◌<◌, List, [], ◌∷◌, Bool, MatchBool, length}
use Rattle.std.specs.List.{flat_map}
use Rattle.line_protocol.specs.Lines.{longest_line}

-- which replies lines have
abbrev pub Relation : Type 1
Relation = List (List ℕ) → List (List ℕ) → Type 0

-- one reply for each line, up to the first that is rejected because there were too many; the next line meets what is
-- left after it. What lines meet and leave is of any type: `Replies` says which reply to a line leaves what, and
-- `is_over` whether the limit of lines is reached
abbrev pub AnswersBy : {S : Type 0} → (S → List ℕ → List ℕ → S → Type 0) → (S → Bool) → S → Relation
AnswersBy Replies is_over stage [] replies = replies ≡ []
AnswersBy Replies is_over stage (line ∷ lines) [] = ⊥
AnswersBy {S} Replies is_over stage (line ∷ lines) (reply ∷ replies) =
    (after : S) × Replies stage line reply after
    × MatchBool (is_over stage) (replies ≡ []) (AnswersBy Replies is_over after lines replies)

-- a listener after a line, and the text of its reply
abbrev pub Says : {L : Type 0} → (L → List ℕ → L → Type 0) → (L → List ℕ) → L → List ℕ → List ℕ → L → Type 0
Says answers reply listener line text after = answers listener line after × (text ≡ reply after)

-- the replies of a listener to one line after another
abbrev pub Answers : {L : Type 0} → (L → List ℕ → L → Type 0) → (L → List ℕ) → (L → Bool) → L → Relation
Answers answers reply over = AnswersBy (Says answers reply) over

-- two lines that are longer than the longest leave the same of a listener
abbrev pub AreLongAlike : {L : Type 0} → (L → List ℕ → L → Type 0) → Type 0
AreLongAlike {L} answers =
    (old new : L) (a b : List ℕ) → longest_line < length a → longest_line < length b → answers old a new
    → answers old b new

-- replies, one after another
abbrev pub joined : List (List ℕ) → List ℕ
joined replies = flat_map (λ reply. reply) replies
