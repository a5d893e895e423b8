-- From what is served between two reads to what `serve` ensures.
use Rattle.std.proofs.Common.{◌≡◌, ℕ, List, [], ◌∷◌, ◌++◌, Bool, true, false, Option, None, Some, inl, inr, refl, sym}
use Rattle.std.proofs.Common.{ap, ◌∙◌, subst}
use Rattle.std.proofs.Common.{append-nil, arith, ◌+◌, ◌<◌, ◌^◌, length, take, if◌then◌else◌, ◌==◌}
use Rattle.std.specs.Io.KnownBytes.{Appends, Consumes, IsAtEnd}
use Rattle.std.specs.Str.Lines.{lines}
use Rattle.line_protocol.specs.Lines.{lines_by, closed_lines}
use Rattle.line_protocol.specs.Answers.{Relation, joined}
use Rattle.line_protocol.specs.Served.{ServedAll, ServedRead, StopsBy, WholeReplies, CutReplies, standing}
use Rattle.line_protocol.specs.Serving.{Fed, Over, Broken, Ended, Counts, Ends, Halts, IsEndlessFault}
use Rattle.line_protocol.specs.declared.serving.server.Server.{Server}
use Rattle.line_protocol.proofs.Known.{consumes-then}
use Rattle.line_protocol.proofs.LineSteps.{lines-is, closed_lines-is}
use Rattle.line_protocol.proofs.ServeSteps.{goes-whole, fed-then, over-then, ended-then, broken-then}
use Rattle.line_protocol.specs.declared.fault.ServeFault.{ServeFault}
use Rattle.line_protocol.specs.declared.fault.ServeFault.TheVariants.{ReadFailed, WriteFailed, Endless}

-- a count from 0 on
from-zero : (a b n : ℕ) → a ≡ 0 → b < 2 ^ 64 → standing b ≡ standing (a + n) → b ≡ standing n
from-zero a b n zero small e = omega arith

from-zero-and : (a b n z : ℕ) → a ≡ 0 → b < 2 ^ 64 → standing b ≡ standing (a + n + z) → b ≡ standing (n + z)
from-zero-and a b n z zero small e = omega arith

module _ (from : Relation) (a : Server) (kept : a.kept.items ≡ []) where
  -- replies to the lines from the start on
  from-start : (last : Bool) (bytes : List ℕ) (replies : List (List ℕ))
      → from (lines_by last a.kept.items bytes) replies
      → from (lines_by last [] bytes) replies
  from-start last bytes replies h = subst (λ (ks : List ℕ). from (lines_by last ks bytes) replies) kept h

  as-lines : (bytes : List ℕ) (replies : List (List ℕ)) → from (lines_by true a.kept.items bytes) replies
      → from (lines bytes) replies
  as-lines bytes replies h =
      subst (λ (ls : List (List ℕ)). from ls replies) (lines-is bytes) (from-start true bytes replies h)

  as-closed : (bytes : List ℕ) (replies : List (List ℕ)) → from (lines_by false a.kept.items bytes) replies
      → from (closed_lines bytes) replies
  as-closed bytes replies h =
      subst (λ (ls : List (List ℕ)). from ls replies) (closed_lines-is bytes) (from-start false bytes replies h)

  over-served : (left left' h0 h2 : Option (List ℕ)) (bytes : List ℕ) → Consumes left left' bytes
      → Over from a h0 h2 bytes
      → ServedAll from left h0 h2
  over-served None left' h0 h2 bytes used over = tt
  over-served (Some input) None h0 h2 bytes used over = absurd used
  over-served (Some input) (Some rest) h0 h2 bytes used over = (
    over.done,
    subst (λ (xs : List ℕ). from (lines xs) over.done) (sym used)
        (as-lines (bytes ++ rest) over.done (over.answers true rest)),
    over.appended,
  )

  all-served : (left left2 h0 h2 : Option (List ℕ)) (seen : List ℕ) → Consumes left left2 seen → IsAtEnd left2
      → (done : List (List ℕ)) × from (lines_by true a.kept.items seen) done × Appends h0 h2 (joined done)
      → ServedAll from left h0 h2
  all-served None left2 h0 h2 seen used at-end d = tt
  all-served (Some input) None h0 h2 seen used at-end d = absurd used
  all-served (Some input) (Some rest) h0 h2 seen used at-end d =
      let e : input ≡ seen = used ∙ ap (λ (xs : List ℕ). seen ++ xs) at-end ∙ append-nil seen in
      (d.0, subst (λ (xs : List ℕ). from (lines xs) d.0) (sym e) (as-lines seen d.0 d.1), d.2)

  module _ (mid : Relation) (b : Server) (left left1 left2 h0 h1 h2 : Option (List ℕ)) (seen : List ℕ)
      (used : Consumes left left1 seen)
      (fed : Fed from mid a b h0 h1 seen) where
    served-over : (bytes : List ℕ) → Consumes left1 left2 bytes → Over mid b h1 h2 bytes → ServedAll from left h0 h2
    served-over bytes more over =
        over-served left left2 h0 h2 (seen ++ bytes) (consumes-then left left1 left2 seen bytes used more)
        (over-then from mid a b b h0 h1 h2 seen bytes fed over)

    seen-over : (bytes : List ℕ) → Consumes left1 left2 bytes → Over mid b h1 h2 bytes
        → ServedRead from left left2 h0 h2
    seen-over bytes more over =
        let k = over-then from mid a b b h0 h1 h2 seen bytes fed over in (
          seen ++ bytes,
          consumes-then left left1 left2 seen bytes used more,
          (
            k.done,
            subst (λ (xs : List ℕ). from (lines xs) k.done) (append-nil (seen ++ bytes))
                (as-lines ((seen ++ bytes) ++ []) k.done (k.answers true [])),
            k.appended,
          ),
        )

    -- the bytes that were read, and no more
    all-seen : Consumes left1 left2 [] → Consumes left left2 seen
    all-seen more = subst (Consumes left left2) (append-nil seen) (consumes-then left left1 left2 seen [] used more)

    served-ended : Consumes left1 left2 [] → IsAtEnd left2 → Ended mid b h1 h2 → ServedAll from left h0 h2
    served-ended more at-end ended =
        all-served left left2 h0 h2 seen (all-seen more) at-end
        (ended-then from mid a b b h0 h1 h2 seen seen fed ended refl)

    seen-ended : Consumes left1 left2 [] → Ended mid b h1 h2 → ServedRead from left left2 h0 h2
    seen-ended more ended =
        let d = ended-then from mid a b b h0 h1 h2 seen seen fed ended refl in
        (seen, all-seen more, (d.0, as-lines seen d.0 d.1, d.2))

    no-more : (more : List ℕ) → Consumes left1 left2 more → more ≡ [] → Consumes left1 left2 []
    no-more more used none = subst (Consumes left1 left2) none used

    -- it has ended
    pub all-answered : (more : List ℕ) → Consumes left1 left2 more → Ends mid b left2 h1 h2 more
        → ServedAll from left h0 h2
    all-answered more used (inl over) = served-over more used over
    all-answered more used (inr (none, at-end, ended)) = served-ended (no-more more used none) at-end ended

    pub read-answered : (more : List ℕ) → Consumes left1 left2 more → Ends mid b left2 h1 h2 more
        → ServedRead from left left2 h0 h2
    read-answered more used (inl over) = seen-over more used over
    read-answered more used (inr (none, at-end, ended)) = seen-ended (no-more more used none) ended

  module _ (replies : a.written.replies ≡ 0) (bytes : a.written.bytes ≡ 0) where
    stops-whole : (mid : Relation) (nothing : mid [] []) (b : Server) (h0 h1 : Option (List ℕ)) (seen : List ℕ)
        (r n : ℕ)
        → Counts b.written r n
        → Fed from mid a b h0 h1 seen → WholeReplies from seen h0 h1 r n
    stops-whole mid nothing b h0 h1 seen r n (r-is, n-is, r-small, n-small) fed = record {
      replies = fed.done;
      answers = as-closed seen fed.done (
          subst (λ (xs : List ℕ). from (lines_by false a.kept.items xs) fed.done) (append-nil seen)
          (subst (λ (rs : List (List ℕ)). from (lines_by false a.kept.items (seen ++ [])) rs) (append-nil fed.done)
          (goes-whole from mid a b h0 h1 seen fed false [] [] nothing)));
      appended = fed.appended;
      count_is = from-zero a.written.replies r (length fed.done) replies r-small (ap standing r-is ∙ fed.replies);
      bytes_is = from-zero a.written.bytes n (length (joined fed.done)) bytes n-small (ap standing n-is ∙ fed.written);
    }

    -- a reply that was cut off
    cut-off : (c : Server) (h0 h2 : Option (List ℕ)) (rest : Bool) (seen : List ℕ) (lines : List (List ℕ)) (r n : ℕ)
        → Counts c.written r n
        → lines_by rest [] seen ≡ lines → Broken from a c h0 h2 (lines_by rest a.kept.items seen)
        → CutReplies from lines h0 h2 r n
    cut-off c h0 h2 rest seen lines r n (r-is, n-is, r-small, n-small) are k = record {
      whole = k.done;
      next = k.last;
      sent = k.sent;
      within = k.within;
      answers = subst (λ (ls : List (List ℕ)). from (take (length k.done + 1) ls) (k.done ++ k.last ∷ [])) are
          (subst (λ (ks : List ℕ). from (take (length k.done + 1) (lines_by rest ks seen)) (k.done ++ k.last ∷ [])) kept
          k.answers);
      appended = k.appended;
      count_is =
          from-zero-and a.written.replies r (length k.done) (if k.sent == length k.last then 1 else 0) replies r-small
          (ap standing r-is ∙ k.replies);
      bytes_is =
          from-zero-and a.written.bytes n (length (joined k.done)) k.sent bytes n-small (ap standing n-is ∙ k.written);
    }

    -- a fault at a turn, after what was served before it
    pub stops : (fault : ServeFault) (mid after : Relation) (nothing : after [] []) (b c : Server)
        (left h0 h1 h2 : Option (List ℕ))
        (seen more : List ℕ)
        → Fed from mid a b h0 h1 seen → Halts fault mid after b c left h1 h2 more
        → StopsBy fault from (seen ++ more) left h0 h2
    stops (ReadFailed r n) mid after nothing b c left h0 h1 h2 seen more fed (counts, next) =
        stops-whole after nothing c h0 h2 (seen ++ more) r n counts
        (fed-then from mid a b c h0 h1 h2 seen more fed after next)
    stops (WriteFailed r n) mid after nothing b c left h0 h1 h2 seen more fed (counts, inl broken) =
        inl (cut-off c h0 h2 false (seen ++ more) _ r n counts (closed_lines-is (seen ++ more))
        (broken-then from mid a b c h0 h1 h2 seen more fed false broken))
    stops (WriteFailed r n) mid after nothing b c left h0 h1 h2 seen more fed (counts, inr (none, at-end, broken)) =
        let here = subst (λ (xs : List ℕ). Broken mid b c h1 h2 (lines_by true b.kept.items xs)) (sym none) broken in
        inr (
          at-end,
          cut-off c h0 h2 true (seen ++ more) _ r n counts (lines-is (seen ++ more))
              (broken-then from mid a b c h0 h1 h2 seen more fed true here),
        )
    stops fault mid after nothing b c left h0 h1 h2 seen more fed halts = absurd halts

    -- no end was found
    pub stops-endless : (fault : ServeFault) (mid : Relation) (nothing : mid [] []) (b : Server)
        (left h0 h1 : Option (List ℕ))
        (seen : List ℕ)
        → IsEndlessFault b.written fault → Fed from mid a b h0 h1 seen → StopsBy fault from seen left h0 h1
    stops-endless (Endless r n) mid nothing b left h0 h1 seen counts fed =
        stops-whole mid nothing b h0 h1 seen r n counts fed
    stops-endless fault mid nothing b left h0 h1 seen counts fed = absurd counts
