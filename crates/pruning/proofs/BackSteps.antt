-- Words that are put back into a state.
use Rattle.std.proofs.Common.{◌≡◌, ℕ, ◌+◌, ◌/◌, ◌%◌, ◌^◌, ◌<◌, ◌==◌, ◌||◌, Bool, true, false, cond, List, [], ◌∷◌}
use Rattle.std.proofs.Common.{ap, sym, ◌∙◌}
use Rattle.std.proofs.Common.{arith, refl}
use Rattle.std.proofs.Math.Path.{fun_ext}
use Rattle.std.proofs.lemmas.Bool.Decides.{nat_tests}
use Rattle.instructions.specs.declared.code.Code.TheVariants.{Word}
use Rattle.shadow_memory.specs.Differences.{in_words, IsWordApart}
use Rattle.shadow_memory.specs.Ranges.{byte_of, changed_in, is_in, offset, written}
use Rattle.shadow_memory.specs.declared.differences.WordApart.{WordApart}
use Rattle.guest_machine.specs.Laws.{DifferWithin, Within}
use Rattle.guest_machine.specs.Run.{poked}
use Rattle.guest_machine.specs.State.{State}

-- states that differ in no word
pub same-state : (s t : State) → DifferWithin (Within (in_words [])) s t → s ≡ t
same-state s t d = λ i. record {
  bytes = fun_ext {f = s.bytes} {g = t.bytes} (λ a. d.bytes a (λ h. no h)) i;
  core = d.core i;
  position = d.position i;
  end_seen = d.end_seen i;
  output = d.output i;
  heap_calls = d.heap_calls i;
  events = d.events i;
}
  where
    no : false ≡ true → ⊥
    no h = cc

-- a byte of a word, by how far it is from its first one
in-place : (addr a : ℕ) → addr % 4 ≡ 0 → addr < 2 ^ 32 → is_in addr 4 a ≡ true
    → (offset addr a < 4) × (a ≡ addr + offset addr a)
in-place addr a even small h = grind (arith, nat_tests)

-- and one of another word
elsewhere : (addr a : ℕ) → addr % 4 ≡ 0 → addr < 2 ^ 32 → is_in addr 4 a ≡ false → (addr / 4 == a / 4) ≡ false
elsewhere addr a even small h = grind (arith, nat_tests)

is-neither : (a b : Bool) → a ≡ false → (b ≡ true → ⊥) → (a || b) ≡ true → ⊥
is-neither false b e not-b h = not-b h
is-neither true b e not-b h = cc

-- a state with a word put back differs in the other words
pub put-in : (w : WordApart) (ws : List WordApart) (s t : State) (other : ℕ → ℕ) → w.addr < 2 ^ 32
    → IsWordApart t.bytes other w → DifferWithin (Within (in_words (w ∷ ws))) s t
    → DifferWithin (Within (in_words ws)) (poked s w.addr (Word w.here)) t
unfolding poked written changed_in
put-in w ws s t other small is d = record {
  bytes = λ a out. go a out (is_in w.addr 4 a) refl;
  core = d.core;
  position = d.position;
  end_seen = d.end_seen;
  output = d.output;
  heap_calls = d.heap_calls;
  events = d.events;
}
  where
    go : (a : ℕ) → (in_words ws a ≡ true → ⊥) → (b : Bool) → is_in w.addr 4 a ≡ b
        → cond b (byte_of w.here (offset w.addr a)) (s.bytes a) ≡ t.bytes a
    go a out true e =
        let place = in-place w.addr a is.aligned small e in
        sym (ap t.bytes place.1 ∙ is.here (offset w.addr a) place.0)
    go a out false e =
        d.bytes a (is-neither (w.addr / 4 == a / 4) (in_words ws a) (elsewhere w.addr a is.aligned small e) out)
