-- The two laws of the table of edits, with a clause for each edit.
use Rattle.std.proofs.Common.{◌≡◌, ℕ, zero, suc, ◌+◌, ◌-◌, ◌<◌, ◌≤◌, ◌==◌, nat_le, nat_lt, Bool, true, false, cond}
use Rattle.std.proofs.Common.{List, [], ◌∷◌, ◌++◌, take, drop, remove, length, Some, None, refl, ap, sym, subst}
use Rattle.std.proofs.Common.{◌∙◌, append-nil, arith}
use Rattle.std.specs.Prelude.{slice_get, slice_set, slice_index_or}
use Rattle.std.proofs.lemmas.Bool.{ltb-true, ltb-false}
use Rattle.std.proofs.lemmas.Bool.Decides.{nat_tests}
use Rattle.std.proofs.lemmas.List.{drop_all, length-set, length-append, length-take}
use Rattle.guest_elf.specs.Images.{profile_of}
use Rattle.guest_elf.specs.declared.profile.Isa.{Isa}
use Rattle.guest_machine.specs.Run.{marks_at, poked, start_state}
use Rattle.guest_machine.specs.State.{State}
use Rattle.instructions.specs.Codes.{len_of}
use Rattle.instructions.specs.declared.code.Code.{Code}
use Rattle.instructions.specs.declared.code.Code.TheVariants.{Half, Word}
use Rattle.run_values.specs.declared.alteration.Alteration.{Alteration}
use Rattle.suppressions.specs.Rules.{Rule}
use Rattle.checkpoints.specs.Effects.{DifferAtStep, LeadsTo, effect_by}
use Rattle.checkpoints.specs.declared.effect.Effect.TheVariants.{End, Input as InputFrom, Nowhere}
use Rattle.checkpoints.specs.Writes.{touch_code}
use Rattle.scenario.specs.Scenario.{Scenario, first_state, run_of, with_words}
use Rattle.scenario.specs.Edits.{Follows, TakesBack, IsTaken, row, refused_if, mark_step, switched, is_on, with_code}
use Rattle.scenario.specs.Edits.{alike, input_effect, overwritten, with_input}
use Rattle.commands.specs.declared.edit.Edit.{Edit}
use Rattle.commands.specs.declared.edit.Edit.TheVariants.{Input, Append, Cut, Patch, Mark, Unmark, Switch, Add, Callers}
use Rattle.commands.specs.declared.edit.Edit.TheVariants.{PatchHalf, Redzone, Volume, Show, Overwrite, Give}
use Rattle.commands.specs.declared.refusal.Refusal.{Refusal}
use Rattle.scenario.specs.declared.written.Written.{Written}
use Rattle.scenario.proofs.FrontSteps.{with-more}
use Rattle.scenario.proofs.InputSteps.{alike-bytes, alike-first, alike-within, overwritten-back}

-- a test that gives a refusal fails if nothing is rejected
pub passed : (b : Bool) (r : Refusal) → refused_if b r ≡ None → b ≡ false
passed true r h = cc
passed false r h = refl

below-of : (n k : ℕ) → nat_le n k ≡ false → k < n
below-of n k e = grind (arith, nat_tests)

some-of : (n : ℕ) → nat_lt n 1 ≡ false → 0 < n
some-of n e = let l : 1 ≤ n = grind (arith, nat_tests) in omega arith

-- a taken edit names a byte or a mark that is there
pub inside : (n k : ℕ) (r : Refusal) → refused_if (nat_le n k) r ≡ None → k < n
inside n k r h = below-of n k (passed _ r h)

pub not_empty : (n : ℕ) (r : Refusal) → refused_if (nat_lt n 1) r ≡ None → 0 < n
not_empty n r h = some-of n (passed _ r h)

-- and no byte beyond the input
pub not-beyond : (len end : ℕ) (r : Refusal) → refused_if (nat_lt len end) r ≡ None → end ≤ len
not-beyond len end r h = ltb-false len end (passed _ r h)

-- ---- what stays in front of an edit of the input

set-front : (xs : List ℕ) (offset byte i : ℕ) → i < offset → slice_get xs i ≡ slice_get (slice_set xs offset byte) i
set-front [] offset byte i l = refl
set-front (x ∷ xs) zero byte i l = absurd (omega arith)
set-front (x ∷ xs) (suc offset) byte zero l = refl
set-front (x ∷ xs) (suc offset) byte (suc i) l = set-front xs offset byte i (omega arith)

take-front : (xs : List ℕ) (n i : ℕ) → i < n → slice_get xs i ≡ slice_get (take n xs) i
take-front [] zero i l = refl
take-front [] (suc n) i l = refl
take-front (x ∷ xs) zero i l = absurd (omega arith)
take-front (x ∷ xs) (suc n) zero l = refl
take-front (x ∷ xs) (suc n) (suc i) l = take-front xs n i (omega arith)

-- ---- where other marks stand

not-at : (m k : ℕ) → (k ≡ m → ⊥) → (m == k) ≡ false
not-at m k n = grind (arith, nat_tests)

differ-appended : (marks : List Alteration) (mark : Alteration) → DifferAtStep mark.step marks (marks ++ mark ∷ [])
differ-appended [] mark k n = sym (ap (λ b. cond b (mark ∷ []) []) (not-at mark.step k n))
differ-appended (m ∷ ms) mark k n = ap (λ rest. cond (m.step == k) (m ∷ rest) rest) (differ-appended ms mark k n)

differ-removed : (marks : List Alteration) (i : ℕ) → DifferAtStep (mark_step marks i) marks (remove marks i)
differ-removed [] zero k n = refl
differ-removed [] (suc i) k n = refl
differ-removed (m ∷ ms) zero k n = ap (λ b. cond b (m ∷ marks_at k ms) (marks_at k ms)) (not-at m.step k n)
differ-removed (m ∷ ms) (suc i) k n = ap (λ rest. cond (m.step == k) (m ∷ rest) rest) (differ-removed ms i k n)

-- ---- an edit leads from run to run

-- the instruction set of its run is the image's
words-isa : (words : List Written) (s : State) → (with_words s words).core.isa ≡ s.core.isa
unfolding poked
words-isa [] s = refl
words-isa (w ∷ words) s = words-isa words (poked s w.addr w.code)

pub first-isa : (sc : Scenario) → (first_state sc).core.isa ≡ (profile_of sc.image).isa
unfolding first_state start_state
first-isa sc = words-isa sc.words (start_state sc.image)

code-leads : (sc : Scenario) (addr : ℕ) (code : Code) (b : Bool)
    → touch_code (profile_of sc.image).isa sc.marks addr (len_of code) ≡ b
    → LeadsTo (effect_by b addr code) (run_of sc) (run_of (with_code sc addr code))
unfolding first_state
code-leads sc addr code true h = record
    { start = with-more (start_state sc.image) sc.words (record { addr = addr; code = code }); differ = (refl, refl) }
code-leads sc addr code false h = record {
  start = with-more (start_state sc.image) sc.words (record { addr = addr; code = code });
  differ =
      (refl, refl, ap (λ (isa : Isa). touch_code isa sc.marks addr (len_of code)) (first-isa sc) ∙ h);
}

-- another input, by where it shows
all-alike : (n len : ℕ) → n ≤ len → nat_lt n len ≡ false → n ≡ len
all-alike n len l e = let high = ltb-false n len e in omega arith

same-whole : (xs ys : List ℕ) → alike xs ys ≡ length xs → length ys ≤ length xs → xs ≡ ys
same-whole xs ys e l =
    sym (alike-first xs ys e ∙ ap (λ more. xs ++ more) (drop_all (length xs) ys l) ∙ append-nil xs)

input-leads : (sc : Scenario) (new : List ℕ)
    → LeadsTo (input_effect sc.setup.input new) (run_of sc) (run_of (with_input sc new))
unfolding first_state input_effect
input-leads sc new = go (nat_lt (alike sc.setup.input new) (length sc.setup.input))
    (nat_lt (length sc.setup.input) (length new)) refl refl
  where
    go : (b c : Bool) → nat_lt (alike sc.setup.input new) (length sc.setup.input) ≡ b
        → nat_lt (length sc.setup.input) (length new) ≡ c
        → LeadsTo (cond b (InputFrom (alike sc.setup.input new)) (cond c End Nowhere)) (run_of sc)
        (run_of (with_input sc new))
    go true c h k =
        let within = alike-within sc.setup.input new in
        record {
          start = refl;
          differ = (
            record {
              redzone = refl;
              volume = refl;
              hooks = refl;
              more = ltb-true (alike sc.setup.input new) (length sc.setup.input) h;
              enough = within.1;
              bytes = alike-bytes sc.setup.input new;
            },
            refl,
          );
        }
    go false true h k =
        let within = alike-within sc.setup.input new in
        let all = all-alike (alike sc.setup.input new) (length sc.setup.input) within.0 h in
        record {
          start = refl;
          differ = (
            record {
              redzone = refl;
              volume = refl;
              hooks = refl;
              input = (drop (length sc.setup.input) new, alike-first sc.setup.input new all);
            },
            refl,
          );
        }
    go false false h k =
        let within = alike-within sc.setup.input new in
        let all = all-alike (alike sc.setup.input new) (length sc.setup.input) within.0 h in
        let same = same-whole sc.setup.input new all (ltb-false (length sc.setup.input) (length new) k) in
        record { start = refl; differ = ((λ i. record sc.setup { input = same i }), refl) }

pub follows : Follows
unfolding first_state
follows sc (Input offset byte) h =
    let there = inside (length sc.setup.input) offset _ h in
    let size = length-set sc.setup.input offset byte in
    record {
      start = refl;
      differ = (
        record {
          redzone = refl;
          volume = refl;
          hooks = refl;
          more = there;
          enough = omega arith;
          bytes = λ i m. set-front sc.setup.input offset byte i m;
        },
        refl,
      );
    }
follows sc (Append byte) h = record {
  start = refl;
  differ = (record { redzone = refl; volume = refl; hooks = refl; input = (byte ∷ [], refl) }, refl);
}
follows sc Cut h =
    let some = not_empty (length sc.setup.input) _ h in
    let size = length-take (length sc.setup.input - 1) sc.setup.input in
    record {
      start = refl;
      differ = (
        record {
          redzone = refl;
          volume = refl;
          hooks = refl;
          more = omega arith;
          enough = omega arith;
          bytes = λ i m. take-front sc.setup.input (length sc.setup.input - 1) i m;
        },
        refl,
      );
    }
follows sc (Overwrite offset bytes) h = input-leads sc (overwritten sc.setup.input offset bytes)
follows sc (Give bytes) h = input-leads sc bytes
follows sc (Patch addr word) h =
    code-leads sc addr (Word word) (touch_code (profile_of sc.image).isa sc.marks addr 4) refl
follows sc (PatchHalf addr half) h =
    code-leads sc addr (Half half) (touch_code (profile_of sc.image).isa sc.marks addr 2) refl
follows sc (Mark mark) h = record { start = refl; differ = (refl, differ-appended sc.marks mark) }
follows sc (Unmark i) h = record { start = refl; differ = (refl, differ-removed sc.marks i) }
follows sc (Switch i on) h = record { start = refl; differ = (refl, refl) }
follows sc (Add rule) h = record { start = refl; differ = (refl, refl) }
follows sc (Callers n) h = record { start = refl; differ = (refl, refl) }
follows sc (Redzone n) h = record { start = refl; differ = (record { input = refl; hooks = refl }, refl) }
follows sc (Volume n) h = record { start = refl; differ = (record { input = refl; hooks = refl }, refl) }
follows sc (Show kinds) h = record { start = refl; differ = (refl, refl) }

-- ---- what takes an edit back

set-back : (xs : List ℕ) (offset byte : ℕ)
    → slice_set (slice_set xs offset byte) offset (slice_index_or xs offset 0) ≡ xs
set-back [] offset byte = refl
set-back (x ∷ xs) zero byte = refl
set-back (x ∷ xs) (suc offset) byte = ap (λ ys. x ∷ ys) (set-back xs offset byte)

pub cut-appended : {T : Type 0} (xs : List T) (x : T) → take (length (xs ++ x ∷ []) - 1) (xs ++ x ∷ []) ≡ xs
cut-appended xs x = rw (length-append xs (x ∷ [])) (front xs x (length xs + 1 - 1) (omega arith))
  where
    front : {T : Type 0} (xs : List T) (x : T) (n : ℕ) → n ≡ length xs → take n (xs ++ x ∷ []) ≡ xs
    front [] x zero e = refl
    front [] x (suc n) e = absurd (omega arith)
    front (y ∷ ys) x zero e = absurd (omega arith)
    front (y ∷ ys) x (suc n) e = ap (λ zs. y ∷ zs) (front ys x n (omega arith))

append-cut : (xs : List ℕ) (n : ℕ) → length xs ≡ n + 1 → take n xs ++ slice_index_or xs n 0 ∷ [] ≡ xs
append-cut [] n e = absurd (omega arith)
append-cut (x ∷ []) zero e = refl
append-cut (x ∷ y ∷ ys) zero e = absurd (omega arith)
append-cut (x ∷ xs) (suc n) e = ap (λ ys. x ∷ ys) (append-cut xs n (omega arith))

remove-last : (marks : List Alteration) (mark : Alteration) → remove (marks ++ mark ∷ []) (length marks) ≡ marks
remove-last [] mark = refl
remove-last (m ∷ ms) mark = ap (λ rest. m ∷ rest) (remove-last ms mark)

switched-back : (rules : List Rule) (i : ℕ) (on : Bool) → switched (switched rules i on) i (is_on rules i) ≡ rules
switched-back [] i on = refl
switched-back (rule ∷ rules) zero on = refl
switched-back (rule ∷ rules) (suc i) on = ap (λ rest. rule ∷ rest) (switched-back rules i on)

-- with another input
same-input : (sc : Scenario) (input : List ℕ) → input ≡ sc.setup.input
    → record sc { setup = record sc.setup { input = input } } ≡ sc
same-input sc input e = λ i. record sc { setup = record sc.setup { input = e i } }

taken-back : {E : Type 0} (a b : E) → Some a ≡ Some b → a ≡ b
taken-back a b e = cc

pub goes_back : TakesBack
goes_back sc edit back h e = go edit back h e
  where
    along : (edit one other : Edit) → one ≡ other → (row (row sc edit).after one).after ≡ sc
        → (row (row sc edit).after other).after ≡ sc
    along edit one other e h = subst (λ (b : Edit). (row (row sc edit).after b).after ≡ sc) e h

    go : (edit back : Edit) → IsTaken sc edit → (row sc edit).back ≡ Some back
        → (row (row sc edit).after back).after ≡ sc
    go (Input offset byte) back h e =
        along (Input offset byte) _ back (taken-back _ back e) (same-input sc _ (set-back sc.setup.input offset byte))
    go (Append byte) back h e =
        along (Append byte) _ back (taken-back _ back e) (same-input sc _ (cut-appended sc.setup.input byte))
    go Cut back h e =
        let some = not_empty (length sc.setup.input) _ h in
        along Cut _ back (taken-back _ back e)
        (same-input sc _ (append-cut sc.setup.input (length sc.setup.input - 1) (omega arith)))
    go (Overwrite offset bytes) back h e =
        along (Overwrite offset bytes) _ back (taken-back _ back e)
        (same-input sc _ (overwritten-back sc.setup.input bytes offset
        (not-beyond (length sc.setup.input) (offset + length bytes) _ h)))
    go (Give bytes) back h e = along (Give bytes) _ back (taken-back _ back e) refl
    go (Patch addr word) back h e = absurd (cc)
    go (PatchHalf addr half) back h e = absurd (cc)
    go (Mark mark) back h e =
        along (Mark mark) _ back (taken-back _ back e) (λ i. record sc { marks = remove-last sc.marks mark i })
    go (Unmark k) back h e = absurd (cc)
    go (Switch k on) back h e =
        along (Switch k on) _ back (taken-back _ back e) (λ i. record sc { rules = switched-back sc.rules k on i })
    go (Add rule) back h e = absurd (cc)
    go (Callers n) back h e = along (Callers n) _ back (taken-back _ back e) refl
    go (Redzone n) back h e = along (Redzone n) _ back (taken-back _ back e) refl
    go (Volume n) back h e = along (Volume n) _ back (taken-back _ back e) refl
    go (Show kinds) back h e = absurd (cc)

-- no edit changes the program
pub image_kept : (sc : Scenario) (edit : Edit) → (row sc edit).after.image ≡ sc.image
image_kept sc Cut = refl
image_kept sc _ = refl
