-- The lines of bytes, where a front of the first line is there already.
use Rattle.std.proofs.Common.{◌≡◌, ℕ, List, [], ◌∷◌, ◌++◌, Bool, true, false, not, refl, sym, ap, ◌∙◌, cond, append-nil}
use Rattle.std.proofs.Common.{append_assoc}
use Rattle.std.proofs.Common.{◌==◌, length, map}
use Rattle.std.specs.List.{slice_split, onto_first}
use Rattle.std.specs.Str.Lines.{lines, lines_of_parts, strip_carriage_return}
use Rattle.line_protocol.specs.Lines.{lines_by, closed_lines, all_but_last}

abbrev after_front : List ℕ → List (List ℕ) → List (List ℕ)
after_front front [] = front ∷ []
after_front front (part ∷ parts) = (front ++ part) ∷ parts

-- the lines in the parts between newlines
abbrev read_parts : Bool → List (List ℕ) → List (List ℕ)
read_parts true parts = lines_of_parts parts
read_parts false parts = map strip_carriage_return (all_but_last parts)

after-onto : (front : List ℕ) (b : ℕ) (parts : List (List ℕ))
    → after_front front (onto_first b parts) ≡ after_front (front ++ b ∷ []) parts
after-onto front b [] = refl
after-onto front b (part ∷ parts) = ap (λ (w : List ℕ). w ∷ parts) (sym (append_assoc front (b ∷ []) part))

read-last : (last : Bool) (front : List ℕ) → lines_by last front [] ≡ read_parts last (front ∷ [])
read-last false front = refl
read-last true front = pick (length front == 0) where
  pick : (t : Bool) → cond (not t) (front ∷ []) [] ≡ cond t [] (front ∷ [])
  pick true = refl
  pick false = refl

read-cons : (last : Bool) (front : List ℕ) (parts : List (List ℕ)) → (rest : List (List ℕ))
    → rest ≡ read_parts last (after_front [] parts)
    → strip_carriage_return front ∷ rest ≡ read_parts last (front ∷ after_front [] parts)
read-cons true front [] rest e = ap (λ (r : List (List ℕ)). strip_carriage_return front ∷ r) e
read-cons true front (p ∷ ps) rest e = ap (λ (r : List (List ℕ)). strip_carriage_return front ∷ r) e
read-cons false front [] rest e = ap (λ (r : List (List ℕ)). strip_carriage_return front ∷ r) e
read-cons false front (p ∷ ps) rest e = ap (λ (r : List (List ℕ)). strip_carriage_return front ∷ r) e

front-nil : (parts : List ℕ) (more : List (List ℕ)) → after_front [] (parts ∷ more) ≡ parts ∷ more
front-nil parts more = refl

nonempty : (p : ℕ → Bool) (bytes : List ℕ) → after_front [] (slice_split p bytes) ≡ slice_split p bytes
nonempty p [] = refl
nonempty p (b ∷ bytes) = pick (p b) (slice_split p bytes) where
  pick : (t : Bool) (parts : List (List ℕ))
      → after_front [] (cond t ([] ∷ parts) (onto_first b parts)) ≡ cond t ([] ∷ parts) (onto_first b parts)
  pick true parts = refl
  pick false [] = refl
  pick false (q ∷ qs) = refl

by-first : (t last : Bool) (front : List ℕ) (b : ℕ) (parts fresh longer : List (List ℕ)) → after_front [] parts ≡ parts
    → fresh ≡ read_parts last (after_front [] parts) → longer ≡ read_parts last (after_front (front ++ b ∷ []) parts)
    → cond t (strip_carriage_return front ∷ fresh) longer
    ≡ read_parts last (after_front front (cond t ([] ∷ parts) (onto_first b parts)))
by-first true last front b parts fresh longer same e f =
    read-cons last front parts fresh e ∙ ap (λ (ps : List (List ℕ)). read_parts last (front ∷ ps)) same ∙ ap
    (λ (w : List ℕ). read_parts last (w ∷ parts)) (sym (append-nil front))
by-first false last front b parts fresh longer same e f = f ∙ ap (read_parts last) (sym (after-onto front b parts))

pub lines_by-is : (last : Bool) (bytes front : List ℕ)
    → lines_by last front bytes ≡ read_parts last (after_front front (slice_split (λ b. b == 10) bytes))
lines_by-is last [] front =
    read-last last front ∙ ap (λ (w : List ℕ). read_parts last (w ∷ [])) (sym (append-nil front))
lines_by-is last (b ∷ bytes) front =
    by-first (b == 10) last front b (slice_split (λ b. b == 10) bytes) _ _ (nonempty (λ b. b == 10) bytes)
    (lines_by-is last bytes [])
    (lines_by-is last bytes (front ++ b ∷ []))

pub lines-is : (bytes : List ℕ) → lines_by true [] bytes ≡ lines bytes
lines-is bytes = lines_by-is true bytes [] ∙ ap lines_of_parts (nonempty (λ b. b == 10) bytes)

pub closed_lines-is : (bytes : List ℕ) → lines_by false [] bytes ≡ closed_lines bytes
closed_lines-is bytes =
    lines_by-is false bytes [] ∙ ap (λ (ps : List (List ℕ)). map strip_carriage_return (all_but_last ps))
    (nonempty (λ b. b == 10) bytes)
