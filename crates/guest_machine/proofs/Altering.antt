-- Where a call of a memory changes it: within a range of addresses.
use Rattle.std.proofs.Common.{◌≡◌, ℕ, refl, ap, ◌∙◌, arith, List, OnOk, OnErr, Ok, Err, Result, Bool, true, false}
use Rattle.std.proofs.Common.{IsTrue, IsFalse}
use Rattle.shadow_memory.specs.Changes.{SomeFront}
use Rattle.shadow_memory.specs.Fronts.{HasCopied, HasFilled, HasReceived, HasStored}
use Rattle.shadow_memory.specs.Memories.{bytes_in, shadows_in}
use Rattle.shadow_memory.specs.Ranges.{above, byte_of, copied, written}
use Rattle.shadow_memory.specs.Shadows.{Shadow, copied_undef, loaded_undef, made_so, shadow_of, stored_shadow}
use Rattle.shadow_memory.specs.Shadows.{stored_undef}
use Rattle.shadow_memory.specs.declared.cells.RangeKind.{RangeKind}
use Rattle.shadow_memory.specs.declared.memory.Memory.{Memory}
use Rattle.definedness.specs.declared.Bits.{Bits}
use Rattle.guest_machine.specs.DecodeCaches.{AreLeft, HasBoth}
use Rattle.guest_machine.specs.declared.decode_cache.DecodeCache.{DecodeCache}
use Rattle.guest_machine.proofs.DecodeSteps.{SameOutside, each-kept, fewer, unchanged}

-- of two memories, the later is as the earlier outside of n bytes from an address on
pub record Alters (old new : Memory) (start n : ℕ) : Type 0 where
  pub bytes : SameOutside (bytes_in old) (bytes_in new) start n
  pub shadows : SameOutside (shadows_in old) (shadows_in new) start n

written-outside : (f g : ℕ → ℕ) (start n : ℕ) (made : ℕ → ℕ) → g ≡ written f start n made → SameOutside f g start n
unfolding written
written-outside f g start n made e a out = ap (λ (h : ℕ → ℕ). h a) e ∙ unchanged f start n (λ i b. made i) a out

copied-outside : (f g : ℕ → ℕ) (from to n : ℕ) → g ≡ copied f from to n → SameOutside f g to n
unfolding copied
copied-outside f g from to n e = written-outside f g to n (λ i. f (above from i)) e

stored-outside : (f g : ℕ → Shadow) (start n undef : ℕ) → g ≡ stored_undef f start n undef → SameOutside f g start n
unfolding stored_undef
stored-outside f g start n undef e a out =
    ap (λ (h : ℕ → Shadow). h a) e ∙ unchanged f start n (λ i s. stored_shadow (byte_of undef i) s) a out

made-outside : (f g : ℕ → Shadow) (start n : ℕ) (kind : RangeKind) → g ≡ made_so f start n kind
    → SameOutside f g start n
unfolding made_so
made-outside f g start n kind e a out =
    ap (λ (h : ℕ → Shadow). h a) e ∙ unchanged f start n (λ i s. shadow_of kind) a out

taken-outside : (f g : ℕ → Shadow) (from to n : ℕ) → g ≡ copied_undef f from to n → SameOutside f g to n
unfolding copied_undef
taken-outside f g from to n e a out =
    ap (λ (h : ℕ → Shadow). h a) e
    ∙ unchanged f to n (λ i s. stored_shadow (loaded_undef (f (above from i))) s) a out

same-outside : {X : Type 0} (f g : ℕ → X) (start n : ℕ) → g ≡ f → SameOutside f g start n
same-outside f g start n e a out = ap (λ (h : ℕ → _). h a) e

-- a call changes the whole range or, if memory runs out, a front of it
within : {T E : Type 0} (r : Result T E) (old new : Memory) (start n : ℕ) (W : ℕ → Type 0)
    → ((k : ℕ) → W k → Alters old new start k) → OnOk r (W n) → OnErr r (SomeFront n W) → Alters old new start n
within (Ok x) old new start n W alters whole front = alters n whole
within (Err e) old new start n W alters whole front =
    let some = alters front.0 front.2 in
    record {
      bytes = fewer _ _ start front.0 n (omega (arith, front.1)) some.bytes;
      shadows = fewer _ _ start front.0 n (omega (arith, front.1)) some.shadows;
    }

pub both : {T E : Type 0} (A B : Type 0) (r : Result T E) → OnOk r A → OnOk r B → OnOk r (A × B)
both A B (Ok x) a b = (a, b)
both A B (Err e) a b = tt

pub store-alters : {T E : Type 0} (r : Result T E) (old new : Memory) (start n : ℕ) (bits : Bits)
    → OnOk r (bytes_in new ≡ written (bytes_in old) start n (byte_of bits.value))
    → OnOk r (shadows_in new ≡ stored_undef (shadows_in old) start n bits.undef)
    → OnErr r (SomeFront n (λ k. HasStored old new start k bits)) → Alters old new start n
store-alters r old new start n bits bytes shadows front =
    within r old new start n (λ k. HasStored old new start k bits)
    (λ k is. record {
      bytes = written-outside _ _ start k _ is.0;
      shadows = stored-outside _ _ start k bits.undef is.1;
    }) (both _ _ r bytes shadows) front

pub receive-alters : {T E : Type 0} (r : Result T E) (old new : Memory) (start n : ℕ) (made : List ℕ)
    → OnOk r (HasReceived old new start n made) → OnErr r (SomeFront n (λ k. HasReceived old new start k made))
    → Alters old new start n
receive-alters r old new start n made whole front =
    within r old new start n (λ k. HasReceived old new start k made)
    (λ k is. record {
      bytes = written-outside _ _ start k _ is.0;
      shadows = stored-outside _ _ start k 0 is.1;
    }) whole front

pub fill-alters : {T E : Type 0} (r : Result T E) (old new : Memory) (start n : ℕ) (made : List ℕ)
    → OnOk r (HasFilled old new start n made) → OnErr r (SomeFront n (λ k. HasFilled old new start k made))
    → Alters old new start n
fill-alters r old new start n made whole front =
    within r old new start n (λ k. HasFilled old new start k made)
    (λ k is. record {
      bytes = written-outside _ _ start k _ is.0;
      shadows = made-outside _ _ start k _ is.1;
    }) whole front

pub copy-alters : {T E : Type 0} (r : Result T E) (old new : Memory) (from to n : ℕ)
    → OnOk r (HasCopied old new from to n) → OnErr r (SomeFront n (λ k. HasCopied old new from to k))
    → Alters old new to n
copy-alters r old new from to n whole front =
    within r old new to n (λ k. HasCopied old new from to k)
    (λ k is. record {
      bytes = copied-outside _ _ from to k is.0;
      shadows = taken-outside _ _ from to k is.1;
    }) whole front

pub range-alters : {T E : Type 0} (r : Result T E) (old new : Memory) (start n : ℕ) (kind : RangeKind)
    → bytes_in new ≡ bytes_in old → OnOk r (shadows_in new ≡ made_so (shadows_in old) start n kind)
    → OnErr r (SomeFront n (λ k. shadows_in new ≡ made_so (shadows_in old) start k kind)) → Alters old new start n
range-alters r old new start n kind bytes whole front =
    within r old new start n (λ k. shadows_in new ≡ made_so (shadows_in old) start k kind)
    (λ k is. record {
      bytes = same-outside _ _ start k bytes;
      shadows = made-outside _ _ start k kind is;
    }) whole front

pub poke-alters : {T E : Type 0} (r : Result T E) (old new : Memory) (start n number : ℕ)
    → shadows_in new ≡ shadows_in old → OnOk r (bytes_in new ≡ written (bytes_in old) start n (byte_of number))
    → OnErr r (SomeFront n (λ k. bytes_in new ≡ written (bytes_in old) start k (byte_of number)))
    → Alters old new start n
poke-alters r old new start n number shadows whole front =
    within r old new start n (λ k. bytes_in new ≡ written (bytes_in old) start k (byte_of number))
    (λ k is. record {
      bytes = written-outside _ _ start k _ is;
      shadows = same-outside _ _ start k shadows;
    }) whole front

-- so the memory has the codes of the entries that are left of a cache
pub kept : (old new : Memory) (cache left : DecodeCache) (start n : ℕ) → Alters old new start n
    → AreLeft cache.words.items left.words.items start n 4
    → AreLeft cache.halves.items left.halves.items start n 2
    → HasBoth (bytes_in old) (shadows_in old) cache.words.items cache.halves.items
    → HasBoth (bytes_in new) (shadows_in new) left.words.items left.halves.items
kept old new cache left start n alters words halves has = record {
  words =
      each-kept (bytes_in old) (bytes_in new) (shadows_in old) (shadows_in new) 4 cache.words.items left.words.items
      start n cache.low cache.high cache.words_right cache.flat words alters.bytes alters.shadows has.words;
  halves =
      each-kept (bytes_in old) (bytes_in new) (shadows_in old) (shadows_in new) 2 cache.halves.items
      left.halves.items start n cache.low cache.high cache.halves_right cache.flat halves alters.bytes alters.shadows
      has.halves;
}

-- a store at once changes its range, or nothing
pub at-once-alters : (done : Bool) (old new : Memory) (start n : ℕ) (bits : Bits)
    → (IsTrue done → bytes_in new ≡ written (bytes_in old) start n (byte_of bits.value))
    → (IsTrue done → shadows_in new ≡ stored_undef (shadows_in old) start n bits.undef)
    → (IsFalse done → bytes_in new ≡ bytes_in old) → (IsFalse done → shadows_in new ≡ shadows_in old)
    → Alters old new start n
at-once-alters true old new start n bits bytes shadows bytes_kept shadows_kept = record {
  bytes = written-outside _ _ start n _ (bytes refl);
  shadows = stored-outside _ _ start n bits.undef (shadows refl);
}
at-once-alters false old new start n bits bytes shadows bytes_kept shadows_kept = record {
  bytes = same-outside _ _ start n (bytes_kept refl);
  shadows = same-outside _ _ start n (shadows_kept refl);
}
