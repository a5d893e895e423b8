-- A step that touches no byte of a code leaves these bytes, so that the code may be poked before the step or after it.
use Rattle.std.proofs.Common.{◌≡◌, ℕ, ◌<◌, ◌^◌, ◌%◌, ◌/◌, Bool, true, false, cond, refl, ap, sym, ◌∙◌, Option, Some}
use Rattle.std.proofs.Common.{None, arith, length}
use Rattle.std.proofs.Math.Path.{fun_ext}
use Rattle.std.proofs.lemmas.Bool.{true≢false}
use Rattle.std.proofs.lemmas.Bool.Decides.{nat_tests}
use Rattle.instructions.specs.Codes.{len_of, number_of}
use Rattle.instructions.specs.declared.code.Code.{Code}
use Rattle.shadow_memory.specs.Ranges.{is_in, offset, written, changed_in, byte_of}
use Rattle.guest_machine.specs.Spans.{covers}
use Rattle.guest_machine.specs.State.{State}
use Rattle.guest_machine.specs.Exec.{exec, touches, touched_at, uses_at, effect_at, written_to, action_at, fetch_span}
use Rattle.guest_machine.specs.Run.{poked}
use Rattle.guest_machine.specs.Laws.{DifferWithin, InCode, KeepsPokes, ReadsOn}
use Rattle.run_values.specs.declared.span.Span.{Span}
use Rattle.guest_machine.specs.declared.setup.Setup.{Setup}
use Rattle.guest_machine.proofs.WordLaw.{keeps-bytes, right-false}

written-elsewhere : (f : ℕ → ℕ) (span : Option Span) (made : ℕ → ℕ) (a : ℕ) → covers span a ≡ false
    → written_to f span made a ≡ f a
unfolding written changed_in
written-elsewhere f None made a h = refl
written-elsewhere f (Some span) made a h = ap (λ b. cond b (made (offset span.start a)) (f a)) h

-- a byte that isn't touched stays
pub stays : (setup : Setup) (s : State) (a : ℕ) → touches s setup a ≡ false → (exec s setup).bytes a ≡ s.bytes a
unfolding exec touches touched_at
stays setup s a h =
    let uses = uses_at s.core s.bytes s.position (length s.output) setup in
    written-elsewhere s.bytes uses.writes (effect_at s.core s.bytes s.position (length s.output) setup).made a
    (right-false (covers uses.reads a) (covers uses.writes a)
    (right-false (covers (fetch_span s.core (action_at s.core s.bytes setup.hooks)) a) _ h))

-- the four bytes from a multiple of 4 on are those of its word
pub in-word : (addr a : ℕ) → addr % 4 ≡ 0 → addr < 2 ^ 32 → is_in addr 4 a ≡ true → a / 4 ≡ addr / 4
in-word addr a m small h = grind (arith, nat_tests)

-- whether an address is in a poked code, as a split
poke-at : (setup : Setup) (addr : ℕ) (code : Code) (s : State) (a : ℕ) (b : Bool) → is_in addr (len_of code) a ≡ b
    → (b ≡ true → (exec (poked s addr code) setup).bytes a ≡ (poked s addr code).bytes a)
    → (b ≡ false → (exec s setup).bytes a ≡ (exec (poked s addr code) setup).bytes a)
    → (exec (poked s addr code) setup).bytes a
    ≡ cond b (byte_of (number_of code) (offset addr a)) ((exec s setup).bytes a)
unfolding poked written changed_in
poke-at setup addr code s a true e inside outside =
    inside refl ∙ ap (λ b. cond b (byte_of (number_of code) (offset addr a)) (s.bytes a)) e
poke-at setup addr code s a false e inside outside = sym (outside refl)

differ : (addr : ℕ) (code : Code) (s : State) → DifferWithin (InCode addr code) s (poked s addr code)
unfolding poked written changed_in
differ addr code s = record {
  bytes = λ a n. go a n (is_in addr (len_of code) a) refl;
  core = refl;
  position = refl;
  end_seen = refl;
  output = refl;
  heap_calls = refl;
  events = refl;
}
  where
    go : (a : ℕ) → (InCode addr code a → ⊥) → (b : Bool) → is_in addr (len_of code) a ≡ b
        → s.bytes a ≡ cond b (byte_of (number_of code) (offset addr a)) (s.bytes a)
    go a n true e = absurd (n e)
    go a n false e = refl

pub keeps-pokes : KeepsPokes
unfolding poked written changed_in
keeps-pokes setup addr code s h =
    let law = keeps-bytes (InCode addr code) setup s (poked s addr code) (differ addr code s) h in
    let d = law.1 in
    let bytes : (exec (poked s addr code) setup).bytes ≡ (poked (exec s setup) addr code).bytes =
    fun_ext (λ a. poke-at setup addr code s a (is_in addr (len_of code) a) refl
    (λ e. stays setup (poked s addr code) a (sym (ap (λ f. f a) law.0) ∙ h a e))
    (λ e. d.bytes a (λ inside. true≢false (sym inside ∙ e)))) in (
      law.0,
      λ i. record {
        bytes = bytes i;
        core = sym d.core i;
        position = sym d.position i;
        end_seen = sym d.end_seen i;
        output = sym d.output i;
        heap_calls = sym d.heap_calls i;
        events = sym d.events i;
      },
    )

pub reads-on : ReadsOn
unfolding exec
reads-on setup s = omega arith
