-- A change at a place is no rejected edit, and what takes it back leaves the scenario as it was.
use Rattle.std.proofs.Common.{◌≡◌, ℕ, zero, suc, ◌+◌, ◌-◌, ◌<◌, ◌≤◌, ◌&&◌, nat_lt, nat_le, Bool, true, false, not}
use Rattle.std.proofs.Common.{if◌then◌else◌, length, take, remove, List, [], ◌∷◌, ◌++◌, Option}
use Rattle.std.proofs.Common.{Some, None, is_some, unwrap_or, Result, Ok, Err, OnOk, OnErr, refl, ap}
use Rattle.std.proofs.Common.{sym, ◌∙◌, subst, arith, slice_set, slice_index_or}
use Rattle.std.proofs.lemmas.Bool.{false≢true}
use Rattle.std.proofs.lemmas.Bool.Decides.{nat_tests}
use Rattle.std.proofs.lemmas.List.{length-append, length-set}
use Rattle.shadow_memory.specs.Ranges.{little_word, window}
use Rattle.instructions.specs.Codes.{len_of}
use Rattle.instructions.specs.declared.code.Code.{Code}
use Rattle.instructions.specs.declared.code.Code.TheVariants.{Word as WholeWord, Half as HalfWord}
use Rattle.scenario.proofs.EditLaws.{cut-appended}
use Rattle.guest_elf.specs.Images.{is_half_word, is_word, profile_of}
use Rattle.guest_elf.specs.Profiles.{has_halves}
use Rattle.guest_elf.specs.declared.image.Image.{Image}
use Rattle.run_values.specs.declared.alteration.Alteration.{Alteration}
use Rattle.scenario.specs.Edits.{half_refusal, is_bad_range, mark_refusal, refused_if, row, IsTaken, TakesBack}
use Rattle.scenario.specs.Limits.{most_marks}
use Rattle.scenario.specs.Scenario.{Scenario, first_state, run_of, limit_of}
use Rattle.commands.specs.declared.edit.Edit.TheVariants.{Input}
use Rattle.commands.specs.declared.refusal.Refusal.{Refusal}
use Rattle.commands.specs.declared.refusal.Refusal.TheVariants.{OutsideInput, NoHalves, NotPatchable}
use Rattle.sweep_plans.specs.Changes.{IsFit, IsRight, act_of, edit_of, glitch_edit, second_of}
use Rattle.checkpoints.specs.Effects.{code_effect}
use Rattle.checkpoints.specs.Forks.{IsForkFor}
use Rattle.checkpoints.specs.declared.effect.Effect.TheVariants.{After, Input as InputFrom}
use Rattle.checkpoints.specs.declared.forks.Fork.{Fork}
use Rattle.sweeps.specs.Sites.{Continues, IsFoundAt}
use Rattle.sweeps.specs.declared.sites.Site.{Site}
use Rattle.sweeps.specs.Standing.{GoesBack, IsAt, IsBelow, MayFollow, Stands, is_struck, standing_byte, standing_in}
use Rattle.sweeps.specs.Standing.{is_half_next, standing_half, standing_step, standing_word, state_before}
use Rattle.sweep_plans.specs.declared.plan.SweepPlace.{SweepPlace}
use Rattle.sweep_plans.specs.declared.plan.SweepPlace.TheVariants.{Byte as ByteAt, Word as WordAt, Half as HalfAt}
use Rattle.sweep_plans.specs.declared.plan.SweepPlace.TheVariants.{Step as StepAt, Nowhere}
use Rattle.sweep_plans.specs.declared.plan.Plan.{Plan}
use Rattle.sweep_plans.specs.declared.request.Range.{Range}
use Rattle.sweep_plans.specs.declared.change.Change.{Change}
use Rattle.sweep_plans.specs.declared.change.Change.TheVariants.{Byte, Word, Half, Once, Twice}
use Rattle.sweep_plans.specs.declared.change.Glitch.{Glitch}
use Rattle.sweep_plans.specs.declared.change.Glitch.TheVariants.{Turn}
use Rattle.sweep_plans.specs.declared.standing.Standing.{Standing}
use Rattle.sweep_plans.specs.declared.standing.Standing.TheVariants as At

-- a value that is there if a test holds
pub there : {A : Type 0} (b : Bool) (x y : A) → (if b then Some x else None) ≡ Some y → (b ≡ true) × (x ≡ y)
there true x y h = (refl, ap (λ o. unwrap_or o x) h)
there false x y h = cc

-- is an instruction of 16 bits loaded at an address, if there are some?
abbrev half-test : Scenario → ℕ → Bool
half-test sc addr = has_halves (profile_of sc.image).isa && is_half_word sc.image addr

-- what is at a place stands there, and at a step that is below the chosen one
module _ (sc : Scenario) (plan : Plan) (near : sc.step ≤ limit_of sc) (none : sc.marks ≡ []) where
  step-there : (code : Option Range) (step : ℕ) (s : Standing) → standing_step sc code step ≡ Some s
      → (nat_lt step sc.step ≡ true)
      × (At.Step step (state_before sc step).core.pc (is_half_next (state_before sc step)) ≡ s)
  unfolding standing_step
  step-there code step s h =
      let is = there (nat_lt step sc.step && is_struck sc.setup.hooks code (state_before sc step).core) _ s h in
      (first-test (nat_lt step sc.step) _ is.0, is.1)
    where
      first-test : (a b : Bool) → (a && b) ≡ true → a ≡ true
      first-test true b h = refl
      first-test false b h = cc

  pub stands-there : (place : SweepPlace) (s : Standing) → standing_in sc plan place ≡ Some s
      → Stands sc s × IsBelow sc.step s
  unfolding standing_byte standing_word standing_half
  stands-there (ByteAt offset) s h =
      let is = (there (nat_lt offset (length sc.setup.input)) (At.Byte offset (slice_index_or sc.setup.input offset 0))
      s h).1 in
      subst (λ x. Stands sc x × IsBelow sc.step x) is (h ∙ ap Some (sym is), tt)
  stands-there (WordAt addr) s h =
      let is = (there (is_word sc.image addr) (At.Word addr (little_word (window (first_state sc).bytes addr 4))) s h).1
      in
      subst (λ x. Stands sc x × IsBelow sc.step x) is (h ∙ ap Some (sym is), tt)
  stands-there (HalfAt addr) s h =
      let is = (there (half-test sc addr) (At.Half addr (little_word (window (first_state sc).bytes addr 2))) s h).1 in
      subst (λ x. Stands sc x × IsBelow sc.step x) is (h ∙ ap Some (sym is), tt)
  stands-there (StepAt step) s h =
      let is = step-there plan.code step s h in
      let below : step < sc.step = let test = is.0 in grind (arith, nat_tests) in
      let size : length sc.marks ≡ 0 = ap length none in
      subst (λ x. Stands sc x × IsBelow sc.step x) is.1 ((omega arith, omega arith), below)
  stands-there Nowhere s h = cc

taken-where : (b : Bool) (refusal : Refusal) → b ≡ false → refused_if b refusal ≡ None
taken-where b refusal e = ap (λ t. refused_if t refusal) e

inside : (sc : Scenario) (offset : ℕ) (s : Standing) → standing_byte sc offset ≡ Some s
    → nat_le (length sc.setup.input) offset ≡ false
unfolding standing_byte
inside sc offset s h =
    let within = (there (nat_lt offset (length sc.setup.input)) _ s h).0 in
    grind (arith, nat_tests)

pub loaded : (sc : Scenario) (addr : ℕ) (s : Standing) → standing_word sc addr ≡ Some s → is_word sc.image addr ≡ true
unfolding standing_word
loaded sc addr s h = (there (is_word sc.image addr) _ s h).0

both-true : (a b : Bool) → (a && b) ≡ true → (a ≡ true) × (b ≡ true)
both-true true b h = (refl, h)
both-true false b h = cc

pub loaded-half : (sc : Scenario) (addr : ℕ) (s : Standing) → standing_half sc addr ≡ Some s
    → (has_halves (profile_of sc.image).isa ≡ true) × (is_half_word sc.image addr ≡ true)
unfolding standing_half
loaded-half sc addr s h = both-true _ _ (there (half-test sc addr) _ s h).0

-- what is at a half, by whether another one there is rejected
half-by : {A : Type 0} (x : A) (a b : Bool) → is_some (if a then refused_if (not b) NotPatchable else Some NoHalves)
    ≡ false → (if a && b then Some x else None) ≡ Some x
half-by x true true h = refl
half-by x true false h = cc
half-by x false b h = cc

half-by-none : {A : Type 0} (x : A) (a b : Bool)
    → is_some (if a then refused_if (not b) NotPatchable else Some NoHalves) ≡ true
    → (if a && b then Some x else None) ≡ None
half-by-none x true true h = cc
half-by-none x true false h = refl
half-by-none x false b h = refl

pub half-there : (sc : Scenario) (addr : ℕ) → is_some (half_refusal sc.image addr) ≡ false
    → standing_half sc addr ≡ Some (At.Half addr (little_word (window (first_state sc).bytes addr 2)))
unfolding half_refusal standing_half
half-there sc addr h =
    half-by (At.Half addr (little_word (window (first_state sc).bytes addr 2))) (has_halves (profile_of sc.image).isa)
    (is_half_word sc.image addr) h

pub half-refused : (sc : Scenario) (addr : ℕ) → is_some (half_refusal sc.image addr) ≡ true
    → standing_half sc addr ≡ None
unfolding half_refusal standing_half
half-refused sc addr h =
    half-by-none (At.Half addr (little_word (window (first_state sc).bytes addr 2)))
    (has_halves (profile_of sc.image).isa)
    (is_half_word sc.image addr) h

-- ---- a change at a place isn't rejected

pub fits : (sc : Scenario) (standing : Standing) (change : Change) → IsAt sc standing change → IsFit change
fits sc (At.Byte offset old) (Byte at value) is = tt
fits sc (At.Word addr old) (Word at value) is = tt
fits sc (At.Half addr old) (Half at value) is = tt
fits sc (At.Step step pc short) (Once at glitch) is = is.1
fits sc (At.Step step pc short) (Twice at glitch later other) is =
    (is.1, is.2, subst (λ k. k ≤ later) (sym is.0) is.3.forward)
fits sc _ _ is = absurd is

good-range : (glitch : Glitch) → IsRight glitch → is_bad_range (act_of glitch) ≡ false
unfolding is_bad_range
good-range (Turn addr mask) right = grind (arith, nat_tests)
good-range _ right = refl

pub glitch-taken : (sc : Scenario) (step : ℕ) (glitch : Glitch) → step ≤ limit_of sc → length sc.marks < most_marks
    → IsRight glitch → IsTaken sc (glitch_edit step glitch)
unfolding mark_refusal
glitch-taken sc step glitch near room right =
    let early : nat_lt (limit_of sc) step ≡ false = grind (arith, nat_tests) in
    let few : nat_le most_marks (length sc.marks) ≡ false = grind (arith, nat_tests) in
    rw (early, good-range glitch right, few) refl

half-taken : (image : Image) (addr : ℕ) → has_halves (profile_of image).isa ≡ true → is_half_word image addr ≡ true
    → half_refusal image addr ≡ None
unfolding half_refusal
half-taken image addr some loaded = rw (some, loaded) refl

pub taken : (sc : Scenario) (standing : Standing) (change : Change) → Stands sc standing → IsAt sc standing change
    → IsTaken sc (edit_of change)
taken sc (At.Byte offset old) (Byte at value) h is =
    taken-where (nat_le (length sc.setup.input) at) OutsideInput
    (ap (nat_le (length sc.setup.input)) is ∙ inside sc offset (At.Byte offset old) h)
taken sc (At.Word addr old) (Word at value) h is =
    taken-where (not (is_word sc.image at)) NotPatchable
    (ap not (ap (is_word sc.image) is ∙ loaded sc addr (At.Word addr old) h))
taken sc (At.Half addr old) (Half at value) h is =
    let there = loaded-half sc addr (At.Half addr old) h in
    ap (half_refusal sc.image) is ∙ half-taken sc.image addr there.0 there.1
taken sc (At.Step step pc short) (Once at glitch) h is =
    glitch-taken sc at glitch (subst (λ k. k ≤ limit_of sc) (sym is.0) h.0) h.1 is.1
taken sc (At.Step step pc short) (Twice at glitch later other) h is =
    glitch-taken sc at glitch (subst (λ k. k ≤ limit_of sc) (sym is.0) h.0) h.1 is.1
taken sc _ _ h is = absurd is

-- ---- what takes it back

pub marks-more : (sc : Scenario) (step : ℕ) (glitch : Glitch)
    → length (row sc (glitch_edit step glitch)).after.marks ≡ length sc.marks + 1
marks-more sc step glitch = length-append sc.marks (record { step = step; act = act_of glitch } ∷ [])

pub with-mark : (sc : Scenario) (step : ℕ) (glitch : Glitch) → length sc.marks < most_marks
    → (1 ≤ length (row sc (glitch_edit step glitch)).after.marks)
    × (length (row sc (glitch_edit step glitch)).after.marks ≤ most_marks)
with-mark sc step glitch room =
    let size = marks-more sc step glitch in (omega arith, omega arith)

pub goes-back : (sc : Scenario) (standing : Standing) (change : Change) → Stands sc standing → IsAt sc standing change
    → GoesBack (row sc (edit_of change)).after standing
goes-back sc (At.Byte offset old) (Byte at value) h is =
    taken-where (nat_le (length (slice_set sc.setup.input at value)) offset) OutsideInput
    (ap (λ n. nat_le n offset) (length-set sc.setup.input at value) ∙ inside sc offset (At.Byte offset old) h)
goes-back sc (At.Word addr old) (Word at value) h is = tt
goes-back sc (At.Half addr old) (Half at value) h is = tt
goes-back sc (At.Step step pc short) (Once at glitch) h is = with-mark sc at glitch h.1
goes-back sc (At.Step step pc short) (Twice at glitch later other) h is = with-mark sc at glitch h.1
goes-back sc _ _ h is = absurd is

abbrev byte-of : Standing → ℕ → ℕ
byte-of (At.Byte offset byte) d = byte
byte-of _ d = d

old-byte : (sc : Scenario) (offset old : ℕ) → standing_byte sc offset ≡ Some (At.Byte offset old)
    → slice_index_or sc.setup.input offset 0 ≡ old
unfolding standing_byte
old-byte sc offset old h =
    ap (λ s. byte-of s 0) (there (nat_lt offset (length sc.setup.input))
    (At.Byte offset (slice_index_or sc.setup.input offset 0)) (At.Byte offset old) h).1

back-byte : TakesBack → (sc : Scenario) (offset old value : ℕ) → standing_byte sc offset ≡ Some (At.Byte offset old)
    → (row (row sc (Input offset value)).after (Input offset old)).after ≡ sc
back-byte law sc offset old value h =
    law sc (Input offset value) (Input offset old)
    (taken sc (At.Byte offset old) (Byte offset value) h refl)
    (ap (λ b. Some (Input offset b)) (old-byte sc offset old h))

-- an edit that needs no memory was applied
pub made : {E : Type 0} (result : Result Unit E) (P : Type 0) (Q : Type 0) → OnOk result P
    → OnErr result ((false ≡ true) × Q) → P
made (Ok u) P Q ok err = ok
made (Err e) P Q ok err = absurd (false≢true err.0)

-- the old byte is there again
pub byte-back : TakesBack → (sc : Scenario) (offset old : ℕ) (change : Change)
    → Stands sc (At.Byte offset old) → IsAt sc (At.Byte offset old) change
    → (row (row sc (edit_of change)).after (Input offset old)).after ≡ sc
byte-back law sc offset old (Byte at value) h is =
    ap (λ k. (row (row sc (Input k value)).after (Input offset old)).after) is ∙ back-byte law sc offset old value h
byte-back law sc offset old _ h is = absurd is

pub put-back-byte : {E : Type 0} → TakesBack
    → (sc now new : Scenario) (offset old : ℕ) (standing : Standing) (change : Change) (result : Result Unit E)
    → standing ≡ At.Byte offset old → Stands sc standing → IsAt sc standing change
    → now ≡ (row sc (edit_of change)).after
    → OnOk result (new ≡ (row now (Input offset old)).after) → OnErr result ((false ≡ true) × (new ≡ now))
    → new ≡ sc
put-back-byte law sc now new offset old standing change result is stands at left ok err =
    made result _ _ ok err
    ∙ ap (λ s. (row s (Input offset old)).after) left
    ∙ byte-back law sc offset old change (subst (Stands sc) is stands) (subst (λ s. IsAt sc s change) is at)

-- the word or the half is no longer written
abbrev without-last : Scenario → Scenario
without-last sc = record sc { words = take (length sc.words - 1) sc.words }

word-back : (sc : Scenario) (addr old : ℕ) (change : Change) → IsAt sc (At.Word addr old) change
    → without-last (row sc (edit_of change)).after ≡ sc
word-back sc addr old (Word at value) is =
    ap (λ words. record sc { words = words })
    (cut-appended sc.words (record { addr = at; code = WholeWord value }))
word-back sc addr old _ is = absurd is

half-back : (sc : Scenario) (addr old : ℕ) (change : Change) → IsAt sc (At.Half addr old) change
    → without-last (row sc (edit_of change)).after ≡ sc
half-back sc addr old (Half at value) is =
    ap (λ words. record sc { words = words }) (cut-appended sc.words (record { addr = at; code = HalfWord value }))
half-back sc addr old _ is = absurd is

pub put-back-word : (sc now new : Scenario) (addr old : ℕ) (standing : Standing) (change : Change)
    → standing ≡ At.Word addr old → IsAt sc standing change → now ≡ (row sc (edit_of change)).after
    → new ≡ without-last now → new ≡ sc
put-back-word sc now new addr old standing change is at left dropped =
    dropped ∙ ap without-last left ∙ word-back sc addr old change (subst (λ s. IsAt sc s change) is at)

pub put-back-half : (sc now new : Scenario) (addr old : ℕ) (standing : Standing) (change : Change)
    → standing ≡ At.Half addr old → IsAt sc standing change → now ≡ (row sc (edit_of change)).after
    → new ≡ without-last now → new ≡ sc
put-back-half sc now new addr old standing change is at left dropped =
    dropped ∙ ap without-last left ∙ half-back sc addr old change (subst (λ s. IsAt sc s change) is at)

-- the last mark is taken out
remove-last : (marks : List Alteration) (mark : Alteration) (n : ℕ) → n ≡ length marks
    → remove (marks ++ mark ∷ []) n ≡ marks
remove-last [] mark zero e = refl
remove-last [] mark (suc n) e = absurd (omega arith)
remove-last (m ∷ ms) mark zero e = absurd (omega arith)
remove-last (m ∷ ms) mark (suc n) e = ap (λ rest. m ∷ rest) (remove-last ms mark n (omega arith))

pub mark-back : (sc now new : Scenario) (step : ℕ) (glitch : Glitch) (last : ℕ)
    → now ≡ (row sc (glitch_edit step glitch)).after → last ≡ length now.marks - 1
    → new ≡ record now { marks = remove now.marks last } → new ≡ sc
mark-back sc now new step glitch last left is removed =
    let mark : Alteration = record { step = step; act = act_of glitch } in
    let size = length-append sc.marks (mark ∷ []) in
    let at : last ≡ length sc.marks = is ∙ ap (λ (s : Scenario). length s.marks - 1) left ∙ omega arith in
    removed ∙ ap (λ (s : Scenario). record s { marks = remove s.marks last }) left
    ∙ ap (λ (marks : List Alteration). record sc { marks = marks }) (remove-last sc.marks mark last at)

pub put-back-step : (sc now new : Scenario) (step pc : ℕ) (short : Bool) (standing : Standing) (change : Change)
    → standing ≡ At.Step step pc short → IsAt sc standing change → now ≡ (row sc (edit_of change)).after
    → ((s : Scenario) (at : ℕ) (glitch : Glitch) → now ≡ (row s (glitch_edit at glitch)).after → new ≡ s) → new ≡ sc
put-back-step sc now new step pc short standing change is at left unmarked =
    go change (subst (λ s. IsAt sc s change) is at) left
  where
    go : (change : Change) → IsAt sc (At.Step step pc short) change → now ≡ (row sc (edit_of change)).after → new ≡ sc
    go (Once at glitch) is left = unmarked sc at glitch left
    go (Twice at glitch later other) is left = unmarked sc at glitch left
    go _ is left = absurd is

-- ---- changes of one edit and of two

pub one-edit : (change : Change) → ((step : ℕ) (glitch : Glitch) (later : ℕ) (other : Glitch)
    → change ≡ Twice step glitch later other → ⊥) → second_of change ≡ None
one-edit (Twice step glitch later other) h = absurd (h step glitch later other refl)
one-edit _ h = refl

pub two-at : (sc : Scenario) (standing : Standing) (at : ℕ) (glitch : Glitch) (later : ℕ) (other : Glitch)
    → IsAt sc standing (Twice at glitch later other) → IsRight glitch × IsRight other × MayFollow sc at later
two-at sc (At.Step step pc short) at glitch later other is =
    (is.1, is.2, subst (λ k. MayFollow sc k later) (sym is.0) is.3)
two-at sc _ at glitch later other is = absurd is

-- no change at a step from the chosen one on
pub no-step : (sc : Scenario) (code : Option Range) (step : ℕ) → sc.step ≤ step → standing_step sc code step ≡ None
unfolding standing_step
no-step sc code step past =
    let test : nat_lt step sc.step ≡ false = grind (arith, nat_tests) in
    rw test refl

-- ---- where the runs continue

pub byte-continues : (sc : Scenario) (offset : ℕ) (standing : Standing) (fork : Fork)
    → standing_byte sc offset ≡ Some standing → IsForkFor (InputFrom offset) (run_of sc) sc.step fork
    → Continues sc standing fork
unfolding standing_byte
byte-continues sc offset standing fork h is =
    subst (λ (s : Standing). Continues sc s fork) (there (nat_lt offset (length sc.setup.input)) _ standing h).1
    (go (slice_index_or sc.setup.input offset 0))
  where
    go : (old : ℕ) → Continues sc (At.Byte offset old) fork
    go old (Byte at value) e = subst (λ k. IsForkFor (InputFrom k) (run_of sc) sc.step fork) (sym e) is
    go old _ e = absurd e

pub word-continues : (sc : Scenario) (addr : ℕ) (standing : Standing) (fork : Fork)
    → standing_word sc addr ≡ Some standing
    → ((code : Code) → len_of code ≡ 4
    → IsForkFor (code_effect (profile_of sc.image).isa sc.marks addr code) (run_of sc) sc.step fork)
    → Continues sc standing fork
unfolding standing_word
word-continues sc addr standing fork h is =
    subst (λ (s : Standing). Continues sc s fork) (there (is_word sc.image addr) _ standing h).1
    (go (little_word (window (first_state sc).bytes addr 4)))
  where
    go : (old : ℕ) → Continues sc (At.Word addr old) fork
    go old (Word at value) e =
        subst
        (λ k. IsForkFor (code_effect (profile_of sc.image).isa sc.marks k (WholeWord value)) (run_of sc) sc.step fork)
        (sym e) (is (WholeWord value) refl)
    go old _ e = absurd e

pub half-continues : (sc : Scenario) (addr : ℕ) (standing : Standing) (fork : Fork)
    → standing_half sc addr ≡ Some standing
    → ((code : Code) → len_of code ≡ 2
    → IsForkFor (code_effect (profile_of sc.image).isa sc.marks addr code) (run_of sc) sc.step fork)
    → Continues sc standing fork
unfolding standing_half
half-continues sc addr standing fork h is =
    subst (λ (s : Standing). Continues sc s fork) (there (half-test sc addr) _ standing h).1
    (go (little_word (window (first_state sc).bytes addr 2)))
  where
    go : (old : ℕ) → Continues sc (At.Half addr old) fork
    go old (Half at value) e =
        subst
        (λ k. IsForkFor (code_effect (profile_of sc.image).isa sc.marks k (HalfWord value)) (run_of sc) sc.step fork)
        (sym e) (is (HalfWord value) refl)
    go old _ e = absurd e

pub step-continues : (sc : Scenario) (code : Option Range) (step : ℕ) (standing : Standing) (fork : Fork)
    → standing_step sc code step ≡ Some standing → IsForkFor (After step) (run_of sc) sc.step fork
    → Continues sc standing fork
unfolding standing_step
step-continues sc code step standing fork h is =
    subst (λ (s : Standing). Continues sc s fork)
    (there (nat_lt step sc.step && is_struck sc.setup.hooks code (state_before sc step).core) _ standing h).1
    (go (state_before sc step).core.pc (is_half_next (state_before sc step)))
  where
    go : (pc : ℕ) (short : Bool) → Continues sc (At.Step step pc short) fork
    go pc short (Once at glitch) e = subst (λ k. IsForkFor (After k) (run_of sc) sc.step fork) (sym e.0) is
    go pc short (Twice at glitch later other) e = subst (λ k. IsForkFor (After k) (run_of sc) sc.step fork) (sym e.0) is
    go pc short _ e = absurd e

-- what was found
pub found-some : (sc : Scenario) (here : Option Standing) (found : Option Site) (site : Site) → found ≡ Some site
    → IsFoundAt sc here found → (here ≡ Some site.standing) × Continues sc site.standing site.fork
found-some sc here found site is h = subst (λ (f : Option Site). IsFoundAt sc here f) is h

pub found-none : (sc : Scenario) (here : Option Standing) (found : Option Site)
    → ((site : Site) → found ≡ Some site → ⊥) → IsFoundAt sc here found → here ≡ None
found-none sc here (Some site) none h = absurd (none site refl)
found-none sc here None none h = h
