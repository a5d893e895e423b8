-- A code of which no mark writes a byte or goes by one may be poked before the marks of a step or after them.
use Rattle.std.proofs.Common.{◌≡◌, ℕ, ◌+◌, ◌≤◌, ◌^◌, ◌==◌, ◌||◌, Bool, true, false, cond, List, [], ◌∷◌, ap, ◌∙◌, refl}
use Rattle.std.specs.Prelude.{fold}
use Rattle.std.specs.List.{list_any}
use Rattle.std.proofs.lemmas.Bool.{true≢false}
use Rattle.guest_elf.specs.Profiles.{has_halves, rv32im}
use Rattle.guest_elf.specs.declared.profile.Isa.{Isa}
use Rattle.guest_machine.specs.Alterations.{altered, goes_by_bytes}
use Rattle.guest_machine.specs.Run.{after_marks, marks_at, poked}
use Rattle.guest_machine.specs.Spans.{covers}
use Rattle.guest_machine.specs.State.{State}
use Rattle.instructions.specs.Codes.{len_of}
use Rattle.instructions.specs.declared.code.Code.{Code}
use Rattle.run_values.specs.Alterations.{writes_of}
use Rattle.run_values.specs.declared.alteration.Alteration.{Alteration}
use Rattle.guest_machine.proofs.AlterSteps.{altered-isa, altered-poked}
use Rattle.checkpoints.specs.Writes.{touch_code, touches_code, writes_code}
use Rattle.checkpoints.proofs.WordSteps.{unmet-code}

or-left : (b c : Bool) → (b || c) ≡ false → b ≡ false
or-left true c h = h
or-left false c h = refl

or-right : (b c : Bool) → (b || c) ≡ false → c ≡ false
or-right true c h = absurd (true≢false h)
or-right false c h = h

-- one mark, and several
mark-poke : (mark : Alteration) (s : State) (addr : ℕ) (code : Code) → addr + len_of code ≤ 2 ^ 32
    → touches_code s.core.isa mark.act addr (len_of code) ≡ false
    → altered (poked s addr code) mark ≡ poked (altered s mark) addr code
mark-poke mark s addr code whole none =
    let unwritten = or-right (goes_by_bytes s.core.isa mark.act) (writes_code mark.act addr (len_of code)) none in
    altered-poked mark s addr code
    (λ a inside. unmet-code (covers (writes_of mark.act)) addr code a whole unwritten inside)
    (or-left (goes_by_bytes s.core.isa mark.act) (writes_code mark.act addr (len_of code)) none)

fold-poke : (marks : List Alteration) (s : State) (addr : ℕ) (code : Code) → addr + len_of code ≤ 2 ^ 32
    → touch_code s.core.isa marks addr (len_of code) ≡ false
    → fold altered (poked s addr code) marks ≡ poked (fold altered s marks) addr code
fold-poke [] s addr code whole none = refl
fold-poke (mark ∷ ms) s addr code whole none =
    let len = len_of code in
    let first = touches_code s.core.isa mark.act addr len in
    ap (λ t. fold altered t ms)
    (mark-poke mark s addr code whole (or-left first (touch_code s.core.isa ms addr len) none))
    ∙ fold-poke ms (altered s mark) addr code whole
    (ap (λ (isa : Isa). touch_code isa ms addr len) (altered-isa s mark)
    ∙ or-right first (touch_code s.core.isa ms addr len) none)

-- those of one step write it no more than all
none-of-step : (isa : Isa) (k : ℕ) (marks : List Alteration) (addr len : ℕ) → touch_code isa marks addr len ≡ false
    → touch_code isa (marks_at k marks) addr len ≡ false
none-of-step isa k [] addr len none = refl
none-of-step isa k (mark ∷ ms) addr len none =
    go (mark.step == k)
    (none-of-step isa k ms addr len (or-right (touches_code isa mark.act addr len) (touch_code isa ms addr len) none))
  where
    go : (b : Bool) → touch_code isa (marks_at k ms) addr len ≡ false
        → touch_code isa (cond b (mark ∷ marks_at k ms) (marks_at k ms)) addr len ≡ false
    go true rest =
        ap (λ b. b || touch_code isa (marks_at k ms) addr len)
        (or-left (touches_code isa mark.act addr len) (touch_code isa ms addr len) none)
        ∙ rest
    go false rest = rest

pub marks-poke : (k : ℕ) (marks : List Alteration) (s : State) (addr : ℕ) (code : Code) → addr + len_of code ≤ 2 ^ 32
    → touch_code s.core.isa marks addr (len_of code) ≡ false
    → after_marks k marks (poked s addr code) ≡ poked (after_marks k marks s) addr code
unfolding after_marks
marks-poke k marks s addr code whole none =
    fold-poke (marks_at k marks) s addr code whole (none-of-step s.core.isa k marks addr (len_of code) none)

-- they leave the instruction set
fold-isa : (marks : List Alteration) (s : State) → (fold altered s marks).core.isa ≡ s.core.isa
fold-isa [] s = refl
fold-isa (mark ∷ ms) s = fold-isa ms (altered s mark) ∙ altered-isa s mark

pub marks-isa : (k : ℕ) (marks : List Alteration) (s : State) → (after_marks k marks s).core.isa ≡ s.core.isa
unfolding after_marks
marks-isa k marks s = fold-isa (marks_at k marks) s

-- with RV32IM only those count that write a byte
with-words-only : (marks : List Alteration) (addr len : ℕ)
    → touch_code rv32im marks addr len ≡ list_any (λ mark. writes_code mark.act addr len) marks
unfolding has_halves
with-words-only marks addr len = refl
