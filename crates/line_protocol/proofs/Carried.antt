-- What was served, for other relations between lines and replies, and for what listeners represent.
use Rattle.std.proofs.Common.{◌≡◌, ℕ, List, [], ◌∷◌, Bool, true, false, Option, None, Some, inl, inr, sym, subst}
use Rattle.std.specs.Bool.{MatchBool}
use Rattle.line_protocol.specs.Answers.{Answers, AnswersBy, Relation}
use Rattle.line_protocol.specs.Lines.{closed_lines}
use Rattle.line_protocol.specs.Served.{ServedAll, ServedRead, WholeReplies, CutReplies, StopsBy, StoppedBy}
use Rattle.line_protocol.specs.declared.fault.ServeFault.{ServeFault}
use Rattle.line_protocol.specs.declared.fault.ServeFault.TheVariants.{ReadFailed, WriteFailed, NoMemory, Endless}

-- one test, with other things under it
under : (t : Bool) (P Q R : Type 0) → (Q → R) → MatchBool t P Q → MatchBool t P R
under true P Q R f h = h
under false P Q R f h = f h

-- listeners that represent something: what they answer is answered there
module _ {L S : Type 0} (answers : L → List ℕ → L → Type 0) (reply : L → List ℕ) (over : L → Bool)
    (Replies : S → List ℕ → List ℕ → S → Type 0) (is_over : S → Bool) (stands : L → S) where
  pub stand-for : ((l m : L) (line : List ℕ) → answers l line m → Replies (stands l) line (reply m) (stands m))
      → ((l : L) → over l ≡ is_over (stands l))
      → (l : L) (lines replies : List (List ℕ)) → Answers answers reply over l lines replies
      → AnswersBy Replies is_over (stands l) lines replies
  stand-for says same l [] replies h = h
  stand-for says same l (line ∷ lines) [] h = absurd h
  stand-for says same l (line ∷ lines) (text ∷ replies) (m, (given, is), rest) = (
    stands m,
    subst (λ (xs : List ℕ). Replies (stands l) line xs (stands m)) (sym is) (says l m line given),
    under (is_over (stands l)) _ _ _ (stand-for says same m lines replies)
        (subst (λ (t : Bool). MatchBool t (replies ≡ []) (Answers answers reply over m lines replies)) (same l) rest),
  )

module _ (P Q : Relation) (to : (lines replies : List (List ℕ)) → P lines replies → Q lines replies) where
  whole-to : (seen : List ℕ) (held-old held-new : Option (List ℕ)) (count bytes : ℕ)
      → WholeReplies P seen held-old held-new count bytes
      → WholeReplies Q seen held-old held-new count bytes
  whole-to seen held-old held-new count bytes h = record {
    replies = h.replies;
    answers = to _ _ h.answers;
    appended = h.appended;
    count_is = h.count_is;
    bytes_is = h.bytes_is;
  }

  cut-to : (lines : List (List ℕ)) (held-old held-new : Option (List ℕ)) (count bytes : ℕ)
      → CutReplies P lines held-old held-new count bytes
      → CutReplies Q lines held-old held-new count bytes
  cut-to lines held-old held-new count bytes h = record {
    whole = h.whole;
    next = h.next;
    sent = h.sent;
    within = h.within;
    answers = to _ _ h.answers;
    appended = h.appended;
    count_is = h.count_is;
    bytes_is = h.bytes_is;
  }

  stops-to : (fault : ServeFault) (seen : List ℕ) (left held-old held-new : Option (List ℕ))
      → StopsBy fault P seen left held-old held-new
      → StopsBy fault Q seen left held-old held-new
  stops-to (ReadFailed count bytes) seen left held-old held-new h = whole-to seen held-old held-new count bytes h
  stops-to (Endless count bytes) seen left held-old held-new h = whole-to seen held-old held-new count bytes h
  stops-to (WriteFailed count bytes) seen left held-old held-new (inl h) =
      inl (cut-to (closed_lines seen) held-old held-new count bytes h)
  stops-to (WriteFailed count bytes) seen left held-old held-new (inr (at-end, h)) =
      inr (at-end, cut-to _ held-old held-new count bytes h)
  stops-to (NoMemory count bytes) seen left held-old held-new (none, h) =
      (none, whole-to seen held-old held-new count bytes h)

  pub all-to : (left held-old held-new : Option (List ℕ)) → ServedAll P left held-old held-new
      → ServedAll Q left held-old held-new
  all-to None held-old held-new h = tt
  all-to (Some input) held-old held-new (replies, h, appended) = (replies, to _ _ h, appended)

  pub read-to : (left-old left-new held-old held-new : Option (List ℕ))
      → ServedRead P left-old left-new held-old held-new
      → ServedRead Q left-old left-new held-old held-new
  read-to left-old left-new held-old held-new (seen, used, (replies, h, appended)) =
      (seen, used, (replies, to _ _ h, appended))

  pub stopped-to : (fault : ServeFault) (left-old left-new held-old held-new : Option (List ℕ))
      → StoppedBy fault P left-old left-new held-old held-new
      → StoppedBy fault Q left-old left-new held-old held-new
  stopped-to fault left-old left-new held-old held-new (seen, used, h) =
      (seen, used, stops-to fault seen left-new held-old held-new h)
