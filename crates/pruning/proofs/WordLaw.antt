-- Runs with bits of a word turned before a step that doesn't touch the word.
use Rattle.std.proofs.Common.{◌≡◌, ℕ, zero, suc, ◌+◌, ◌-◌, ◌/◌, ◌%◌}
use Rattle.std.proofs.Common.{◌^◌, ◌<◌, ◌≤◌, ◌==◌, ◌&&◌, ◌||◌, not, nat_le, nat_lt}
use Rattle.std.proofs.Common.{Bool, true, false, cond, ◌⊎◌, inl, inr, refl, ap, sym, subst, ◌∙◌, arith}
use Rattle.std.proofs.lemmas.Bool.Decides.{nat_tests}
use Rattle.definedness.specs.Operations.{xor_of}
use Rattle.shadow_memory.specs.Ranges.{above, byte_of, changed_in, is_in, little_word, offset, window, written}
use Rattle.shadow_memory.proofs.Ranging.{byte-of-number, same-number}
use Rattle.guest_machine.specs.Alterations.{altered, altered_bytes, altered_core}
use Rattle.guest_machine.specs.Exec.{exec, is_running, touches}
use Rattle.guest_machine.specs.Laws.{InCode, KeepsPokes, TouchesNone}
use Rattle.guest_machine.specs.Run.{poked, post}
use Rattle.guest_machine.proofs.PokeLaw.{in-word}
use Rattle.guest_machine.specs.State.{State}
use Rattle.instructions.specs.declared.code.Code.TheVariants.{Word}
use Rattle.guest_machine.specs.declared.setup.Setup.{Setup}
use Rattle.run_values.specs.declared.alteration.Act.TheVariants.{Turn}
use Rattle.pruning.specs.declared.passing.Passing.TheVariants.{Keeps, Looks}
use Rattle.pruning.specs.Laws.{HasBytes, RunsKeepWords}
use Rattle.pruning.specs.Words.{passing_word, touches_word}
use Rattle.pruning.proofs.RunLaw.{both-kept, by-act, running-next}
use Rattle.pruning.proofs.StepLaw.{runs-before}

-- ---- the four bytes of a word at a multiple of 4

unwrapped : (addr i : ℕ) → addr % 4 ≡ 0 → addr < 2 ^ 32 → i < 4 → (addr + i) % 2 ^ 32 ≡ addr + i
unwrapped addr i aligned near less = omega arith

below : (i n : ℕ) → i < n → nat_lt i n ≡ true
below i n h = grind (arith, nat_tests)

beyond : (i n : ℕ) → n ≤ i → nat_lt i n ≡ false
beyond i n h = grind (arith, nat_tests)

window-at : (f : ℕ → ℕ) (addr i : ℕ) → addr % 4 ≡ 0 → addr < 2 ^ 32 → i < 4 → window f addr 4 i ≡ f (addr + i)
unfolding window
window-at f addr i aligned near less =
    ap (λ b. cond b (f (above addr i)) 0) (below i 4 less) ∙ ap f (unwrapped addr i aligned near less)

window-fits : (s : State) (addr : ℕ) → addr % 4 ≡ 0 → addr < 2 ^ 32 → HasBytes s addr
    → (i : ℕ) → window s.bytes addr 4 i < 256
unfolding window
window-fits s addr aligned near fits i = go (nat_lt i 4) refl
  where
    go : (b : Bool) → nat_lt i 4 ≡ b → cond b (s.bytes (above addr i)) 0 < 256
    go true h =
        let less : i < 4 = grind (arith, nat_tests) in
        subst (λ a. s.bytes a < 256) (sym (unwrapped addr i aligned near less)) (fits i less)
    go false h = omega arith

-- an address in it is one of the four
place-in : (addr a : ℕ) → addr % 4 ≡ 0 → addr < 2 ^ 32 → is_in addr 4 a ≡ true
    → (offset addr a < 4) × (addr + offset addr a ≡ a)
place-in addr a aligned near h = go (nat_lt a (2 ^ 32)) (nat_le addr a) refl refl h
  where
    go : (b c : Bool) → nat_lt a (2 ^ 32) ≡ b → nat_le addr a ≡ c
        → b && nat_lt (cond c (a - addr) (a + 2 ^ 32 - addr)) 4 ≡ true
        → (cond c (a - addr) (a + 2 ^ 32 - addr) < 4) × (addr + cond c (a - addr) (a + 2 ^ 32 - addr) ≡ a)
    go false c e f h = cc
    go true true e f h =
        let less : a - addr < 4 = grind (arith, nat_tests) in
        let from : addr ≤ a = grind (arith, nat_tests) in (less, omega arith)
    go true false e f h =
        let less : a + 2 ^ 32 - addr < 4 = grind (arith, nat_tests) in absurd (omega arith)

in-place : (addr i : ℕ) → addr % 4 ≡ 0 → addr < 2 ^ 32 → i < 4
    → (is_in addr 4 (addr + i) ≡ true) × (offset addr (addr + i) ≡ i)
in-place addr i aligned near less =
    let far : nat_lt (addr + i) (2 ^ 32) ≡ true = below (addr + i) (2 ^ 32) (omega arith) in
    let from : nat_le addr (addr + i) ≡ true = grind (arith, nat_tests) in
    let at : offset addr (addr + i) ≡ i = ap (λ b. cond b (addr + i - addr) (addr + i + 2 ^ 32 - addr)) from
    ∙ (let e : addr + i - addr ≡ i = omega arith in e) in
    (ap (λ b. b && nat_lt (offset addr (addr + i)) 4) far ∙ ap (λ n. nat_lt n 4) at ∙ below i 4 less, at)

-- ---- a word that gets bytes

-- it has them
poked-at : (s : State) (addr word i : ℕ) → addr % 4 ≡ 0 → addr < 2 ^ 32 → i < 4
    → (poked s addr (Word word)).bytes (addr + i) ≡ byte_of word i
unfolding poked written changed_in
poked-at s addr word i aligned near less =
    let at = in-place addr i aligned near less in
    ap (λ b. cond b (byte_of word (offset addr (addr + i))) (s.bytes (addr + i))) at.0 ∙ ap (byte_of word) at.1

-- and if these are its own, nothing has changed
same-poked : (s : State) (addr : ℕ) → addr % 4 ≡ 0 → addr < 2 ^ 32 → HasBytes s addr
    → poked s addr (Word (little_word (window s.bytes addr 4))) ≡ s
unfolding poked written changed_in
same-poked s addr aligned near fits = λ i. record s { bytes = λ a. each a i }
  where
    word : ℕ
    word = little_word (window s.bytes addr 4)

    each : (a : ℕ) → cond (is_in addr 4 a) (byte_of word (offset addr a)) (s.bytes a) ≡ s.bytes a
    each a = go (is_in addr 4 a) refl
      where
        go : (b : Bool) → is_in addr 4 a ≡ b → cond b (byte_of word (offset addr a)) (s.bytes a) ≡ s.bytes a
        go true h =
            let at = place-in addr a aligned near h in
            byte-of-number (window s.bytes addr 4) (window-fits s addr aligned near fits) (offset addr a) at.0
            ∙ window-at s.bytes addr (offset addr a) aligned near at.0 ∙ ap s.bytes at.1
        go false h = refl

-- ---- a step that keeps it

neither : (x y : Bool) → x || y ≡ false → (x ≡ false) × (y ≡ false)
neither true y h = cc
neither false y h = (refl, h)

is-kept : (s : State) (setup : Setup) (addr : ℕ) → passing_word s setup addr ≡ Keeps
    → (addr % 4 ≡ 0) × (touches_word s setup addr ≡ false)
unfolding passing_word
is-kept s setup addr = go (addr % 4 == 0) (touches_word s setup addr) refl refl
  where
    go : (b c : Bool) → (addr % 4 == 0) ≡ b → touches_word s setup addr ≡ c → cond (b && not c) Keeps Looks ≡ Keeps
        → (addr % 4 ≡ 0) × (touches_word s setup addr ≡ false)
    go true false e f h = (grind (arith, nat_tests), f)
    go true true e f h = cc
    go false c e f h = cc

one-of-four : (addr a : ℕ) → a / 4 ≡ addr / 4 → addr % 4 ≡ 0
    → (a ≡ addr) ⊎ ((a ≡ addr + 1) ⊎ ((a ≡ addr + 2) ⊎ (a ≡ addr + 3)))
one-of-four addr a same aligned = grind arith

touches-none : (s : State) (setup : Setup) (addr : ℕ) → addr % 4 ≡ 0 → addr < 2 ^ 32 → touches_word s setup addr ≡ false
    → (word : ℕ) → TouchesNone (InCode addr (Word word)) s setup
touches-none s setup addr aligned near h word a inside =
    let same = in-word addr a aligned near inside in
    let halves = neither (touches s setup addr || touches s setup (addr + 1))
    (touches s setup (addr + 2) || touches s setup (addr + 3)) h in
    let front = neither (touches s setup addr) (touches s setup (addr + 1)) halves.0 in
    let back = neither (touches s setup (addr + 2)) (touches s setup (addr + 3)) halves.1 in
    elim (one-of-four addr a same aligned) [
      | inl e ↦ ap (touches s setup) e ∙ front.0
      | inr (inl e) ↦ ap (touches s setup) e ∙ front.1
      | inr (inr (inl e)) ↦ ap (touches s setup) e ∙ back.0
      | inr (inr (inr e)) ↦ ap (touches s setup) e ∙ back.1
    ]

-- it leaves the word's bytes
word-stays : KeepsPokes → (setup : Setup) (addr : ℕ) (s : State) → addr % 4 ≡ 0 → addr < 2 ^ 32 → HasBytes s addr
    → ((word : ℕ) → TouchesNone (InCode addr (Word word)) s setup)
    → little_word (window s.bytes addr 4) ≡ little_word (window (exec s setup).bytes addr 4)
word-stays law setup addr s aligned near fits none =
    same-number (window s.bytes addr 4) (window (exec s setup).bytes addr 4) each
  where
    word : ℕ
    word = little_word (window s.bytes addr 4)

    stepped : exec s setup ≡ poked (exec s setup) addr (Word word)
    stepped =
        ap (λ t. exec t setup) (sym (same-poked s addr aligned near fits))
        ∙ (law setup addr (Word word) s (none word)).1

    each : (i : ℕ) → i < 4 → window s.bytes addr 4 i ≡ window (exec s setup).bytes addr 4 i
    each i less =
        sym (byte-of-number (window s.bytes addr 4) (window-fits s addr aligned near fits) i less)
        ∙ sym (poked-at (exec s setup) addr word i aligned near less)
        ∙ ap (λ (t : State). t.bytes (addr + i)) (sym stepped)
        ∙ sym (window-at (exec s setup).bytes addr i aligned near less)

-- bits of a word that are turned in a machine that runs
turns : (k addr mask : ℕ) (s : State) → is_running s.core.status ≡ true
    → by-act k (Turn addr mask) s ≡ poked s addr (Word (xor_of (little_word (window s.bytes addr 4)) mask))
unfolding by-act altered altered_core altered_bytes poked
turns k addr mask s runs =
    ap (λ b. record s {
      core = cond b s.core s.core;
      bytes = cond b (written s.bytes addr 4 (byte_of (xor_of (little_word (window s.bytes addr 4)) mask))) s.bytes;
    }) runs

turned-kept : KeepsPokes → (setup : Setup) (k addr mask : ℕ) (s : State) → addr < 2 ^ 32 → HasBytes s addr
    → passing_word s setup addr ≡ Keeps → is_running (exec s setup).core.status ≡ true
    → exec (by-act k (Turn addr mask) s) setup ≡ by-act (suc k) (Turn addr mask) (exec s setup)
turned-kept law setup k addr mask s near fits h then =
    let kept = is-kept s setup addr h in
    let none = touches-none s setup addr kept.0 near kept.1 in
    ap (λ t. exec t setup) (turns k addr mask s (runs-before s setup then))
    ∙ (law setup addr (Word (xor_of (little_word (window s.bytes addr 4)) mask)) s
    (none (xor_of (little_word (window s.bytes addr 4)) mask))).1
    ∙ ap (λ w. poked (exec s setup) addr (Word (xor_of w mask))) (word-stays law setup addr s kept.0 near fits none)
    ∙ sym (turns (suc k) addr mask (exec s setup) then)

pub runs-keep-words : KeepsPokes → RunsKeepWords
runs-keep-words law start setup marks k addr mask near fits h then none =
    both-kept start setup marks k (Turn addr mask) (turned-kept law setup k addr mask (post start setup marks k) near
    fits h (running-next start setup marks k then)) none

-- the bytes at four addresses in a row
pub four-fit : (f : ℕ → ℕ) (addr : ℕ) → f addr < 256 → f (addr + 1) < 256 → f (addr + 2) < 256 → f (addr + 3) < 256
    → (i : ℕ) → i < 4 → f (addr + i) < 256
four-fit f addr one two three four zero h =
    let e : addr ≡ addr + 0 = omega arith in subst (λ a. f a < 256) e one
four-fit f addr one two three four (suc zero) h = two
four-fit f addr one two three four (suc (suc zero)) h = three
four-fit f addr one two three four (suc (suc (suc zero))) h = four
four-fit f addr one two three four (suc (suc (suc (suc i)))) h = absurd (omega arith)
