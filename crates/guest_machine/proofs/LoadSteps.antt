-- Segments loaded one after another.
use Rattle.std.proofs.Common.{◌≡◌, ℕ, Bool, true, false, Option, Some, None, refl, ap, ap₂, sym, ◌∙◌, ◌+◌, ◌-◌, ◌^◌}
use Rattle.std.proofs.Common.{◌<◌, ◌≤◌, List, ◌∷◌, ◌&&◌, nat_lt, nat_le, cond}
use Rattle.std.proofs.Common.{arith, slice_index, unwrap_or, is_some, drop, suc, length, get_or, drop-cons}
use Rattle.std.proofs.Math.Seq.{drop-length}
use Rattle.std.specs.Option.{option_or}
use Rattle.std.proofs.Math.Path.{fun_ext}
use Rattle.std.proofs.lemmas.Bool.Decides.{nat_tests}
use Rattle.guest_elf.specs.Segments.{loaded, loaded_by}
use Rattle.guest_elf.specs.declared.segment.Segment.{Segment}
use Rattle.shadow_memory.specs.Ranges.{offset, is_in, changed_in, written}
use Rattle.shadow_memory.specs.Shadows.{Shadow, shadow_of, made_so}
use Rattle.guest_machine.specs.Loading.{loaded_bytes, loaded_shadows}
use Rattle.shadow_memory.specs.declared.cells.RangeKind.TheVariants.{Defined}

-- is an address among a segment's?
has : Segment → ℕ → Bool
has s a = nat_le s.vaddr a && nat_lt a (s.vaddr + s.memsz)

in-range : (start n a : ℕ) → start + n ≤ 2 ^ 32 → is_in start n a ≡ (nat_le start a && nat_lt a (start + n))
in-range start n a h = grind (arith, nat_tests)

place-in : (start n a : ℕ) → (nat_le start a && nat_lt a (start + n)) ≡ true → offset start a ≡ a - start
place-in start n a h = grind (arith, nat_tests)

choose-byte : (b : Bool) (p q x : ℕ) (o : Option ℕ) → (b ≡ true → p ≡ q)
    → cond b p (unwrap_or o x) ≡ unwrap_or (option_or (cond b (Some q) None) o) x
choose-byte true p q x o h = h refl
choose-byte false p q x o h = refl

choose-shadow : (b : Bool) (d x : Shadow) (v : ℕ) (o : Option ℕ)
    → cond b d (cond (is_some o) d x) ≡ cond (is_some (option_or (cond b (Some v) None) o)) d x
choose-shadow true d x v o = refl
choose-shadow false d x v o = refl

bytes-over : (s : Segment) (ss : List Segment) (f now : ℕ → ℕ) → s.vaddr + s.memsz ≤ 2 ^ 32 → now ≡ loaded_bytes ss f
    → written now s.vaddr s.memsz (slice_index s.bytes.now) ≡ loaded_bytes (s ∷ ss) f
unfolding written changed_in loaded_bytes loaded loaded_by
bytes-over s ss f now fits is = fun_ext (λ a.
    ap (λ b. cond b (slice_index s.bytes.now (offset s.vaddr a)) (now a)) (in-range s.vaddr s.memsz a fits)
    ∙ ap (λ g. cond (nat_le s.vaddr a && nat_lt a (s.vaddr + s.memsz)) (slice_index s.bytes.now (offset s.vaddr a))
    (g a)) is
    ∙ choose-byte (nat_le s.vaddr a && nat_lt a (s.vaddr + s.memsz)) _ _ (f a) (loaded ss a)
    (λ h. ap (slice_index s.bytes.now) (place-in s.vaddr s.memsz a h)))

shadows-over : (s : Segment) (ss : List Segment) (f now : ℕ → Shadow) → s.vaddr + s.memsz ≤ 2 ^ 32
    → now ≡ loaded_shadows ss f → made_so now s.vaddr s.memsz Defined ≡ loaded_shadows (s ∷ ss) f
unfolding made_so changed_in loaded_shadows loaded loaded_by
shadows-over s ss f now fits is = fun_ext (λ a.
    ap (λ b. cond b (shadow_of Defined) (now a)) (in-range s.vaddr s.memsz a fits)
    ∙ ap (λ g. cond (nat_le s.vaddr a && nat_lt a (s.vaddr + s.memsz)) (shadow_of Defined) (g a)) is
    ∙ choose-shadow (nat_le s.vaddr a && nat_lt a (s.vaddr + s.memsz)) (shadow_of Defined) (f a) _ (loaded ss a))

-- the rest of the list, with another segment
next-segment : (ss : List Segment) (i : ℕ) (s : Segment) → 0 < i → i ≤ length ss → s ≡ get_or ss (i - 1) s
    → drop (i - 1) ss ≡ s ∷ drop i ss
next-segment ss i s more within is =
    let inside : i - 1 < length ss = omega arith in
    let after : suc (i - 1) ≡ i = omega arith in
    drop-cons ss (i - 1) s inside ∙ ap₂ (λ x n. x ∷ drop n ss) (sym is) after

pub bytes-step : (ss : List Segment) (i : ℕ) (s : Segment) (f now : ℕ → ℕ) → 0 < i → i ≤ length ss
    → s ≡ get_or ss (i - 1) s → s.vaddr + s.memsz ≤ 2 ^ 32 → now ≡ loaded_bytes (drop i ss) f
    → written now s.vaddr s.memsz (slice_index s.bytes.now) ≡ loaded_bytes (drop (i - 1) ss) f
bytes-step ss i s f now more within here fits is =
    bytes-over s (drop i ss) f now fits is ∙ ap (λ xs. loaded_bytes xs f) (sym (next-segment ss i s more within here))

pub shadows-step : (ss : List Segment) (i : ℕ) (s : Segment) (f now : ℕ → Shadow) → 0 < i → i ≤ length ss
    → s ≡ get_or ss (i - 1) s → s.vaddr + s.memsz ≤ 2 ^ 32 → now ≡ loaded_shadows (drop i ss) f
    → made_so now s.vaddr s.memsz Defined ≡ loaded_shadows (drop (i - 1) ss) f
shadows-step ss i s f now more within here fits is =
    shadows-over s (drop i ss) f now fits is
    ∙ ap (λ xs. loaded_shadows xs f) (sym (next-segment ss i s more within here))

-- nothing is loaded yet
pub bytes-none : (ss : List Segment) (f : ℕ → ℕ) → f ≡ loaded_bytes (drop (length ss) ss) f
unfolding loaded_bytes loaded
bytes-none ss f = rw (drop-length ss) refl

pub shadows-none : (ss : List Segment) (f : ℕ → Shadow) → f ≡ loaded_shadows (drop (length ss) ss) f
unfolding loaded_shadows loaded
shadows-none ss f = rw (drop-length ss) refl
