-- An execution from one step to another.
use Rattle.std.proofs.Common.{◌≡◌, ◌⊎◌, inl, inr, ℕ, zero, suc, ◌+◌, ◌-◌, ◌<◌, ◌≤◌, ◌||◌, Bool, true, false, cond}
use Rattle.std.proofs.Common.{List, []}
use Rattle.std.proofs.Common.{◌∷◌, ◌++◌, ◌==◌, length, append-nil, append_assoc, Option, None, take, drop, refl, ap}
use Rattle.std.proofs.Common.{sym}
use Rattle.std.proofs.Math.Seq.{drop-append_seam, drop-length}
use Rattle.guest_machine.specs.Calls.{argument}
use Rattle.std.proofs.Common.{subst}
use Rattle.std.proofs.Common.{◌∙◌, arith, length-append}
use Rattle.std.proofs.Common.{zero-add}
use Rattle.std.proofs.Math.Nat.{suc-add}
use Rattle.std.proofs.KnownBytes.{Appends-nil, Appends-trans}
use Rattle.std.proofs.Common.{nat_lt}
use Rattle.std.proofs.lemmas.Bool.Decides.{nat_tests}
use Rattle.shadow_memory.specs.Ranges.{above, window}
use Rattle.std.specs.Io.KnownBytes.{Appends}
use Rattle.guest_machine.specs.State.{State}
use Rattle.guest_machine.specs.Exec.{exec}
use Rattle.guest_machine.specs.Run.{pre}
use Rattle.guest_machine.specs.Shows.{Shows}
use Rattle.guest_machine.specs.Streams.{refuses_write, refused_writes, row_at, HasMore, IsQuietFor, KeepsFront}
use Rattle.guest_machine.specs.Streams.{OnlyCallsSpeak, rested}
use Rattle.guest_machine.specs.Streams.{Rests, SameStreams, StaysAtRest, WritesWhatItReads, bytes_over, sees_end}
use Rattle.guest_machine.specs.Exec.{seen_also, touched_of}
use Rattle.std.proofs.Common.{Result, Ok, Err, IfErr}
use Rattle.guest_machine.specs.declared.machine.Machine.{Machine}
use Rattle.guest_machine.specs.declared.setup.Setup.{Setup}
use Rattle.run_values.specs.declared.span.Span.{Span}
use Rattle.scenario.specs.Scenario.{Scenario, first_state}
use Rattle.test_runs.specs.Executions.{state_at, refused_at, step_of, machine_of, refused_of, open_of, unknown_of}
use Rattle.test_runs.specs.Executions.{limited_of, needs_at, needs_of}
use Rattle.test_runs.specs.Executions.{calls_at, calls_of, GoesOnSilently}
use Rattle.test_runs.specs.Executions.{open_after, part_to, piece_at, piece_of, piece_to, written_at, written_to}
use Rattle.test_runs.specs.Executions.{is_open_at, Gives, GivesTo, Held, IsAt, IsSaid, MovesOn, Wrote, WroteFront}
use Rattle.guest_machine.specs.Laws.{EndStays}
use Rattle.scenario.specs.Edits.{with_input}
use Rattle.std.proofs.lemmas.Bool.{true≢false}
use Rattle.test_runs.specs.declared.execution.Execution.{Execution}
use Rattle.test_runs.proofs.RunParts.{joined, none-yet, one-more, refused-first, refused-next, rests-on, same-self}
use Rattle.test_runs.proofs.RunParts.{none-unknown, one-unknown, unknown-next}
use Rattle.test_runs.proofs.RunParts.{needs-next, none-needs, one-needs}
use Rattle.unknown_calls.specs.UnknownCalls.{after_maybe}
use Rattle.guest_machine.specs.Streams.{needs_limits, unknown_call}
use Rattle.test_runs.proofs.RunParts.{none-written, one-written, open-append, open-none, silence-of, written-next}

either : (b : Bool) → (b ≡ true) ⊎ (b ≡ false)
either true = inl refl
either false = inr refl

-- at the start
pub at-start : (sc : Scenario) (e : Execution) → step_of e ≡ 0 → refused_of e ≡ 0 → open_of e ≡ false
    → unknown_of e ≡ [] → limited_of e ≡ false → Shows (machine_of e) (first_state sc) → IsAt e sc
at-start sc e at none closed known usual shows = record {
  shows =
      subst (Shows (machine_of e)) (sym (ap (state_at sc) at ∙ none-yet (first_state sc) sc.setup)) shows;
  refused = none ∙ sym (ap (refused_at sc) at ∙ refused-first (first_state sc) sc.setup);
  line =
      closed
      ∙ sym (ap (is_open_at sc) at ∙ ap (open_after false) (none-written (first_state sc) sc.setup 2)
      ∙ open-none false);
  unknown = known ∙ sym (ap (calls_at sc) at ∙ none-unknown (first_state sc) sc.setup);
  limits = usual ∙ sym (ap (needs_at sc) at ∙ none-needs (first_state sc) sc.setup);
}

-- after steps that are no ECALLs
pub silently : OnlyCallsSpeak → (sc : Scenario) (old new : Execution) (made : ℕ) → IsAt old sc
    → step_of new ≡ step_of old + made → step_of new ≤ sc.step → refused_of new ≡ refused_of old
    → open_of new ≡ open_of old → unknown_of new ≡ unknown_of old → limited_of new ≡ limited_of old
    → ((s : State) → Shows (machine_of old) s → Shows (machine_of new) (pre s sc.setup [] made))
    → ((s : State) → Shows (machine_of old) s → IsQuietFor s sc.setup made) → GoesOnSilently sc old new
silently law sc old new made was on within kept still known usual shows quiet =
    let start = first_state sc in
    let n = step_of old in
    let silence = silence-of law start sc.setup n made (quiet (state_at sc n) was.shows) in
    let there : pre (pre start sc.setup [] n) sc.setup [] made ≡ state_at sc (step_of new) =
    joined start sc.setup n made ∙ ap (state_at sc) (sym on) in
    let none : (d : ℕ) → written_at sc d (step_of new) ≡ written_at sc d n = λ d. ap (written_at sc d) on
    ∙ silence.none d in
    record {
      on = record {
        at = record {
          shows = subst (Shows (machine_of new)) there (shows (state_at sc n) was.shows);
          refused = kept ∙ was.refused ∙ sym silence.refused ∙ ap (refused_at sc) (sym on);
          unknown = known ∙ was.unknown ∙ sym silence.known ∙ ap (calls_at sc) (sym on);
          limits = usual ∙ was.limits ∙ sym silence.limits ∙ ap (needs_at sc) (sym on);
          line = still ∙ was.line ∙ ap (open_after false) (sym (none 2));
        };
        on = omega (arith, on);
        within = within;
      };
      same = subst (λ m. SameStreams (state_at sc n) (state_at sc m)) (sym on) silence.same;
      none = none;
    }

-- at rest, up to any later step
pub at-rest : OnlyCallsSpeak → StaysAtRest → (sc : Scenario) (old new : Execution) → IsAt old sc
    → step_of old ≤ step_of new → step_of new ≤ sc.step → refused_of new ≡ refused_of old
    → open_of new ≡ open_of old → unknown_of new ≡ unknown_of old → limited_of new ≡ limited_of old
    → ((s : State) → Shows (machine_of old) s → Shows (machine_of new) (rested s (step_of new - step_of old)))
    → Rests (state_at sc (step_of old)) sc.setup → GoesOnSilently sc old new
at-rest law rest sc old new was on within kept still known usual shows h =
    let start = first_state sc in
    let n = step_of old in
    let far : step_of new ≡ n + (step_of new - n) = omega (arith, on) in
    let stays = rests-on law start sc.setup n rest h (step_of new - n) in
    let there : state_at sc (step_of new) ≡ rested (state_at sc n) (step_of new - n) =
    ap (state_at sc) far ∙ stays.0 in
    let none : (d : ℕ) → written_at sc d (step_of new) ≡ written_at sc d n = λ d. ap (written_at sc d) far
    ∙ stays.1.none d in
    record {
      on = record {
        at = record {
          shows = subst (Shows (machine_of new)) (sym there) (shows (state_at sc n) was.shows);
          refused = kept ∙ was.refused ∙ sym stays.1.refused ∙ ap (refused_at sc) (sym far);
          unknown = known ∙ was.unknown ∙ sym stays.1.known ∙ ap (calls_at sc) (sym far);
          limits = usual ∙ was.limits ∙ sym stays.1.limits ∙ ap (needs_at sc) (sym far);
          line = still ∙ was.line ∙ ap (open_after false) (sym (none 2));
        };
        on = on;
        within = within;
      };
      same = subst (λ m. SameStreams (state_at sc n) (state_at sc m)) (sym far) stays.1.same;
      none = none;
    }

-- ---- what is written

pub gives-none : (held : Held) → Gives held held [] []
gives-none held = (Appends-nil held.out, Appends-nil held.err)

pub gives-then : (a b c : Held) (out err more_out more_err : List ℕ) → Gives a b out err → Gives b c more_out more_err
    → Gives a c (out ++ more_out) (err ++ more_err)
gives-then a b c out err more_out more_err one two = (
  Appends-trans a.out b.out c.out out more_out one.0 two.0,
  Appends-trans a.err b.err c.err err more_err one.1 two.1,
)

pub gives-both : (a b : Held) (out other err same : List ℕ) → out ≡ other → err ≡ same → Gives a b out err
    → Gives a b other same
gives-both a b out other err same one two gives = (
  subst (Appends a.out b.out) one gives.0,
  subst (Appends a.err b.err) two gives.1,
)

pub said-none : (sc : Scenario) (d from to : ℕ) → written_at sc d to ≡ written_at sc d from → IsSaid sc d from to []
said-none sc d from to same = same ∙ sym (append-nil (written_at sc d from))

pub said-then : (sc : Scenario) (d from mid to : ℕ) (xs ys : List ℕ) → IsSaid sc d from mid xs → IsSaid sc d mid to ys
    → IsSaid sc d from to (xs ++ ys)
said-then sc d from mid to xs ys one two =
    two ∙ ap (λ zs. zs ++ ys) one ∙ append_assoc (written_at sc d from) xs ys

-- nothing, where nothing was written
pub wrote-none : (sc : Scenario) (from to : ℕ) (held : Held)
    → ((d : ℕ) → written_at sc d to ≡ written_at sc d from) → Wrote sc from to held held
wrote-none sc from to held none =
    ([], [], said-none sc 1 from to (none 1), said-none sc 2 from to (none 2), gives-none held)

pub wrote-then : (sc : Scenario) (from mid to : ℕ) (a b c : Held) → Wrote sc from mid a b → Wrote sc mid to b c
    → Wrote sc from to a c
wrote-then sc from mid to a b c one two = (
  one.0 ++ two.0,
  one.1 ++ two.1,
  said-then sc 1 from mid to one.0 two.0 one.2 two.2,
  said-then sc 2 from mid to one.1 two.1 one.3 two.3,
  gives-then a b c one.0 one.1 two.0 two.1 one.4 two.4,
)

pub take-past : (xs ys : List ℕ) (n : ℕ) → take (length xs + n) (xs ++ ys) ≡ xs ++ take n ys
take-past [] ys n = ap (λ k. take k ys) (zero-add n)
take-past (x ∷ xs) ys n =
    ap (λ k. take k (x ∷ xs ++ ys)) (suc-add (length xs) n) ∙ ap (λ zs. x ∷ zs) (take-past xs ys n)

pub front-then : (sc : Scenario) (from mid : ℕ) (a b c : Held) → Wrote sc from mid a b → WroteFront sc mid b c
    → WroteFront sc from a c
front-then sc from mid a b c one (to, out, err, sent, before, says, also, gives) = (
  to,
  one.0 ++ out,
  one.1 ++ err,
  sent,
  before,
  said-then sc 1 from mid to one.0 out one.2 says,
  said-then sc 2 from mid to one.1 err one.3 also,
  gives-both a c _ _ _ _ (sym (append_assoc one.0 out (take sent (piece_at sc 1 to))))
      (sym (append_assoc one.1 err (take sent (piece_at sc 2 to))))
      (gives-then a b c one.0 one.1 (out ++ take sent (piece_at sc 1 to)) (err ++ take sent (piece_at sc 2 to)) one.4
      gives),
)

-- nothing yet
pub front-none : (sc : Scenario) (from : ℕ) (held : Held) → from < sc.step → WroteFront sc from held held
front-none sc from held before =
    (from, [], [], 0, before, said-none sc 1 from from refl, said-none sc 2 from from refl, gives-none held)

-- ---- a step

-- it writes out a piece, if the output has grown
grown : (xs ys piece : List ℕ) (Same : Type 0) → (ys ≡ xs) ⊎ ((ys ≡ xs ++ piece) × Same) → (length ys ≡ length xs → ⊥)
    → (ys ≡ xs ++ piece) × Same
grown xs ys piece Same (inl same) more = absurd (more (ap length same))
grown xs ys piece Same (inr said) more = said

no-piece : (piece : List ℕ) → length piece ≡ 0 → piece ≡ []
no-piece [] h = refl
no-piece (x ∷ xs) h = absurd (omega arith)

kept : (xs ys piece : List ℕ) (Same : Type 0) → (ys ≡ xs) ⊎ ((ys ≡ xs ++ piece) × Same) → length ys ≡ length xs → ys
    ≡ xs
kept xs ys piece Same (inl same) h = same
kept xs ys piece Same (inr said) h =
    let n = length-append xs piece in
    let whole : length ys ≡ length (xs ++ piece) = ap length said.0 in
    said.0 ∙ ap (λ p. xs ++ p) (no-piece piece (omega arith)) ∙ append-nil xs

-- the state after it, what was refused, and whether a line is open
pub stepped : (sc : Scenario) (old new : Execution) (refuses needs : Bool) (number : Option ℕ) → IsAt old sc
    → step_of new ≡ step_of old + 1
    → refused_of new ≡ refused_of old + cond refuses 1 0
    → open_of new ≡ open_after (open_of old) (piece_at sc 2 (step_of old))
    → unknown_of new ≡ after_maybe (unknown_of old) number → limited_of new ≡ (limited_of old || needs)
    → ((s : State) → Shows (machine_of old) s → number ≡ unknown_call s sc.setup)
    → ((s : State) → Shows (machine_of old) s → refuses ≡ refuses_write s sc.setup)
    → ((s : State) → Shows (machine_of old) s → needs ≡ needs_limits s sc.setup)
    → ((s : State) → Shows (machine_of old) s → Shows (machine_of new) (exec s sc.setup)) → IsAt new sc
stepped sc old new refuses needs number was next counts ends meets joins asks test finds shows =
    let start = first_state sc in
    let n = step_of old in
    let last : n + 1 ≡ suc n = omega arith in
    let there : exec (state_at sc n) sc.setup ≡ state_at sc (step_of new) =
    sym (one-more start sc.setup n) ∙ ap (state_at sc) (sym (next ∙ last)) in
    record {
      shows = subst (Shows (machine_of new)) there (shows (state_at sc n) was.shows);
      refused =
          counts ∙ ap (λ m. m + cond refuses 1 0) was.refused
          ∙ sym (refused-next start sc.setup n refuses (test (state_at sc n) was.shows))
          ∙ ap (refused_at sc) (sym next);
      line =
          ends ∙ ap (λ was. open_after was (piece_at sc 2 n)) was.line
          ∙ sym (open-append (written_at sc 2 n) (piece_at sc 2 n) false)
          ∙ ap (open_after false) (sym (written-next start sc.setup 2 n))
          ∙ ap (is_open_at sc) (sym next);
      unknown =
          meets ∙ ap (λ calls. after_maybe calls number) was.unknown
          ∙ sym (unknown-next start sc.setup n number (asks (state_at sc n) was.shows))
          ∙ ap (calls_at sc) (sym next);
      limits =
          joins ∙ ap (λ b. b || needs) was.limits
          ∙ sym (needs-next start sc.setup n needs (finds (state_at sc n) was.shows))
          ∙ ap (needs_at sc) (sym next);
    }

after-one : (sc : Scenario) (n : ℕ) → state_at sc (n + 1) ≡ exec (state_at sc n) sc.setup
after-one sc n =
    let last : n + 1 ≡ suc n = omega arith in ap (state_at sc) last ∙ one-more (first_state sc) sc.setup n

-- ---- more input

piece-alike : (s t : State) (one two : Setup) (d : ℕ) → s ≡ t → exec s one ≡ exec t two
    → piece_to s one d ≡ piece_to t two d
unfolding piece_to
piece-alike s t one two d same after =
    λ i. part_to (argument (same i).core 10) d (drop (length (same i).output) (after i).output)

module _ (front : KeepsFront) (stays : EndStays) (start : State) (one : Setup) (input : List ℕ) (empty : one.input ≡ [])
  where
    more : HasMore one (record one { input = input }) input
    more = record { redzone = refl; volume = refl; hooks = refl; input = sym (ap (λ xs. xs ++ input) empty) }

    same : (n : ℕ) → (pre start one [] n).end_seen ≡ false → pre start one [] n
        ≡ pre start (record one { input = input }) [] n
    same n unseen = front one (record one { input = input }) input start n more unseen

    unseen-before : (n : ℕ) → (pre start one [] (suc n)).end_seen ≡ false → (pre start one [] n).end_seen ≡ false
    unseen-before n unseen = elim (either (pre start one [] n).end_seen) [
      | inl seen ↦ absurd (true≢false (sym (stays one (pre start one [] n) seen)
          ∙ sym (ap (λ s. s.end_seen) (one-more start one n)) ∙ unseen))
      | inr before ↦ before
    ]

    refused-same : (n : ℕ) → (pre start one [] n).end_seen ≡ false
        → refused_writes start one n ≡ refused_writes start (record one { input = input }) n
    unfolding refuses_write row_at
    refused-same zero unseen = refused-first start one ∙ sym (refused-first start (record one { input = input }))
    refused-same (suc n) unseen =
        let before = unseen-before n unseen in
        let refuses = refuses_write (pre start one [] n) one in
        let next : suc n ≡ n + 1 = omega arith in
        ap (refused_writes start one) next ∙ refused-next start one n refuses refl
        ∙ ap (λ m. m + cond refuses 1 0) (refused-same n before)
        ∙ sym (refused-next start (record one { input = input }) n refuses
        (ap (λ s. refuses_write s one) (same n before)))
        ∙ ap (refused_writes start (record one { input = input })) (sym next)

    unknown-same : (n : ℕ) → (pre start one [] n).end_seen ≡ false
        → calls_of start one n ≡ calls_of start (record one { input = input }) n
    unfolding unknown_call row_at
    unknown-same zero unseen = none-unknown start one ∙ sym (none-unknown start (record one { input = input }))
    unknown-same (suc n) unseen =
        let before = unseen-before n unseen in
        let number = unknown_call (pre start one [] n) one in
        one-unknown start one n ∙ ap (λ calls. after_maybe calls number) (unknown-same n before)
        ∙ ap (λ s. after_maybe (calls_of start (record one { input = input }) n) (unknown_call s one)) (same n before)
        ∙ sym (one-unknown start (record one { input = input }) n)

    needs-same : (n : ℕ) → (pre start one [] n).end_seen ≡ false
        → needs_of start one n ≡ needs_of start (record one { input = input }) n
    unfolding needs_limits row_at
    needs-same zero unseen = none-needs start one ∙ sym (none-needs start (record one { input = input }))
    needs-same (suc n) unseen =
        let before = unseen-before n unseen in
        let needs = needs_limits (pre start one [] n) one in
        one-needs start one n ∙ ap (λ b. b || needs) (needs-same n before)
        ∙ ap (λ s. needs_of start (record one { input = input }) n || needs_limits s one) (same n before)
        ∙ sym (one-needs start (record one { input = input }) n)

    written-same : (d n : ℕ) → (pre start one [] n).end_seen ≡ false
        → written_to start one d n ≡ written_to start (record one { input = input }) d n
    written-same d zero unseen = none-written start one d ∙ sym (none-written start (record one { input = input }) d)
    written-same d (suc n) unseen =
        let two = record one { input = input } in
        let before = unseen-before n unseen in
        let piece = piece-alike (pre start one [] n) (pre start two [] n) one two d (same n before)
        (sym (one-more start one n) ∙ same (suc n) unseen ∙ one-more start two n) in
        one-written start one d n ∙ (λ i. written-same d n before i ++ piece i) ∙ sym (one-written start two d n)

pub moves-on : KeepsFront → EndStays → MovesOn
unfolding first_state
moves-on front stays e sc input was empty unseen =
    let start = first_state sc in
    let there : state_at sc (step_of e) ≡ state_at (with_input sc input) (step_of e) =
    same front stays start sc.setup input empty (step_of e) unseen in (
      record {
        shows = subst (Shows (machine_of e)) there was.shows;
        refused = was.refused ∙ refused-same front stays start sc.setup input empty (step_of e) unseen;
        line = was.line ∙ ap (open_after false)
            (written-same front stays start sc.setup input empty 2 (step_of e) unseen);
        unknown = was.unknown ∙ unknown-same front stays start sc.setup input empty (step_of e) unseen;
        limits = was.limits ∙ needs-same front stays start sc.setup input empty (step_of e) unseen;
      },
      λ d. written-same front stays start sc.setup input empty d (step_of e) unseen,
    )

-- ---- the bytes of a range

pub in-window : (f : ℕ → ℕ) (start n i : ℕ) → i < n → window f start n i ≡ f (above start i)
unfolding window
in-window f start n i less =
    let within : nat_lt i n ≡ true = grind (arith, nat_tests) in
    ap (λ b. cond b (f (above start i)) 0) within

-- ---- what a step writes out

-- the bytes of a range: what it reads, or nothing if the output isn't longer after it
pub piece-is : WritesWhatItReads → (s : State) (setup : Setup) (before after : ℕ) → before ≡ length s.output
    → after ≡ length (exec s setup).output → (range reads : Option Span) → reads ≡ (touched_of s setup).reads
    → ((after ≡ before) × (range ≡ None)) ⊎ ((after ≡ before → ⊥) × (range ≡ reads))
    → (bytes : ℕ → ℕ) → bytes ≡ (exec s setup).bytes → piece_of s setup ≡ bytes_over bytes range
unfolding bytes_over
piece-is law s setup before after was is range reads same (inl none) bytes now =
    let t = exec s setup in
    let piece = bytes_over s.bytes (touched_of s setup).reads in
    ap (drop (length s.output))
    (kept s.output t.output piece (t.bytes ≡ s.bytes) (law setup s) (sym is ∙ none.0 ∙ was))
    ∙ drop-length s.output ∙ ap (bytes_over bytes) (sym none.1)
piece-is law s setup before after was is range reads same (inr more) bytes now =
    let t = exec s setup in
    let piece = bytes_over s.bytes (touched_of s setup).reads in
    let said = grown s.output t.output piece (t.bytes ≡ s.bytes) (law setup s)
    (λ e. more.0 (is ∙ e ∙ sym was)) in
    ap (drop (length s.output)) said.0 ∙ drop-append_seam s.output piece
    ∙ (λ i. bytes_over (sym (now ∙ said.1) i) (sym (more.1 ∙ same) i))

take-part : (sent : ℕ) (b : Bool) (piece : List ℕ) → cond b (take sent piece) [] ≡ take sent (cond b piece [])
take-part sent true piece = refl
take-part zero false piece = refl
take-part (suc sent) false piece = refl

-- the part of a descriptor
pub part-is : (sc : Scenario) (n named : ℕ) (piece : List ℕ) → named ≡ argument (state_at sc n).core 10
    → piece_of (state_at sc n) sc.setup ≡ piece → (d : ℕ) → part_to named d piece ≡ piece_at sc d n
unfolding piece_to
part-is sc n named piece names is d = λ i. part_to (names i) d (sym is i)

module _ (sc : Scenario) (n named : ℕ) (piece : List ℕ) (old new : Held)
    (names : named ≡ argument (state_at sc n).core 10)
    (is : piece_of (state_at sc n) sc.setup ≡ piece) where
  part : (d : ℕ) → part_to named d piece ≡ piece_at sc d n
  part d = part-is sc n named piece names is d

  -- it was written
  pub wrote-piece : GivesTo named old new piece → Wrote sc n (n + 1) old new
  wrote-piece gives = (
    piece_at sc 1 n,
    piece_at sc 2 n,
    written-next (first_state sc) sc.setup 1 n,
    written-next (first_state sc) sc.setup 2 n,
    gives-both old new _ _ _ _ (part 1) (part 2) gives,
  )

  -- or a front of it
  pub front-piece : n < sc.step → (sent : ℕ) → GivesTo named old new (take sent piece) → WroteFront sc n old new
  front-piece before sent gives = (
    n,
    [],
    [],
    sent,
    before,
    said-none sc 1 n n refl,
    said-none sc 2 n n refl,
    gives-both old new _ _ _ _ (take-part sent (named == 1) piece ∙ ap (take sent) (part 1))
        (take-part sent (named == 2) piece ∙ ap (take sent) (part 2)) gives,
  )

-- it leaves the end unseen, where it doesn't see it
pub unseen-after : (sc : Scenario) (n : ℕ) → (state_at sc n).end_seen ≡ false → sees_end (state_at sc n) sc.setup
    ≡ false
    → (state_at sc (n + 1)).end_seen ≡ false
unfolding exec sees_end
unseen-after sc n unseen sees =
    ap (λ u. u.end_seen) (after-one sc n)
    ∙ (λ i. seen_also (unseen i) (sees i))

-- ---- errors

pub if-err : {T E : Type 0} (result : Result T E) (P : Type 0) → P → IfErr result (λ error. P)
if-err (Ok x) P p = tt
if-err (Err e) P p = p

-- after steps that write nothing out
pub front-silently : (sc : Scenario) (old mid : Execution) (a b : Held) → GoesOnSilently sc old mid
    → WroteFront sc (step_of mid) a b → WroteFront sc (step_of old) a b
front-silently sc old mid a b silent wrote =
    front-then sc (step_of old) (step_of mid) a a b (wrote-none sc (step_of old) (step_of mid) a silent.none) wrote
