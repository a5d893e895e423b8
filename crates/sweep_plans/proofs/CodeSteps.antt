-- The bytes that segments load, and the instructions of a program, one after another.
use Rattle.std.proofs.Common.{◌≡◌, ℕ, suc, ◌+◌, ◌<◌, ◌≤◌, Bool, List, ◌++◌, length, get_or, drop, Option}
use Rattle.std.proofs.Common.{Some, None, unwrap_or, refl, ap, sym, ◌∙◌, append_assoc, append-nil, arith}
use Rattle.std.proofs.Math.Seq.{drop-cons}
use Rattle.std.proofs.lemmas.List.{drop_all}
use Rattle.std.specs.Option.{option_map, option_or}
use Rattle.guest_elf.specs.Segments.{loaded, loaded_by}
use Rattle.guest_elf.specs.declared.image.Image.{Image}
use Rattle.guest_elf.specs.declared.segment.Segment.{Segment}
use Rattle.sweep_plans.proofs.ListSteps.{plus-one}
use Rattle.sweep_plans.specs.Plans.{instruction_at, instructions, is_long, somewhere}
use Rattle.sweep_plans.specs.declared.plan.SweepPlace.{SweepPlace}
use Rattle.sweep_plans.specs.declared.plan.SweepPlace.TheVariants.{Byte, Word, Half, Step, Nowhere}

-- what the segments from one on load: what that one does, or else those after it
loaded-next : (segments : List Segment) (i addr : ℕ) (segment : Segment) → i < length segments
    → segment ≡ get_or segments i segment → loaded (drop i segments) addr ≡ loaded segments addr
    → loaded segments addr ≡ option_or (loaded_by segment addr) (loaded (drop (i + 1) segments) addr)
unfolding loaded
loaded-next segments i addr segment less is same =
    sym same ∙ ap (λ rest. loaded rest addr) (drop-cons segments i segment less)
    ∙ (λ j. option_or (loaded_by (sym is j) addr) (loaded (drop (sym (plus-one i) j) segments) addr))

pub loaded-here : (segments : List Segment) (i addr : ℕ) (segment : Segment) (byte : ℕ) → i < length segments
    → segment ≡ get_or segments i segment → loaded (drop i segments) addr ≡ loaded segments addr
    → loaded_by segment addr ≡ Some byte → byte ≡ unwrap_or (loaded segments addr) 0
loaded-here segments i addr segment byte less is same here =
    sym (ap (λ o. unwrap_or o 0) (loaded-next segments i addr segment less is same
    ∙ ap (λ o. option_or o (loaded (drop (i + 1) segments) addr)) here))

pub loaded-later : (segments : List Segment) (i addr : ℕ) (segment : Segment) → i < length segments
    → segment ≡ get_or segments i segment → loaded (drop i segments) addr ≡ loaded segments addr
    → loaded_by segment addr ≡ None → loaded (drop (i + 1) segments) addr ≡ loaded segments addr
loaded-later segments i addr segment less is same none =
    sym (loaded-next segments i addr segment less is same
    ∙ ap (λ o. option_or o (loaded (drop (i + 1) segments) addr)) none)

pub loaded-nowhere : (segments : List Segment) (i addr : ℕ) → length segments ≤ i
    → loaded (drop i segments) addr ≡ loaded segments addr → 0 ≡ unwrap_or (loaded segments addr) 0
unfolding loaded
loaded-nowhere segments i addr past same =
    ap (λ o. unwrap_or o 0) (sym (ap (λ rest. loaded rest addr) (drop_all i segments past)) ∙ same)

-- nothing was found in a list
pub nothing-there : {R : Type 0} (now : R → SweepPlace) (found : Option R) (other : SweepPlace)
    → ((x : R) → found ≡ Some x → ⊥) → unwrap_or (option_map now found) other ≡ other
nothing-there now None other h = refl
nothing-there now (Some x) other h = absurd (h x refl)

-- a place is listed once at most
pub one-at-most : (place : SweepPlace) → length (somewhere place) ≤ 1
one-at-most (Byte offset) = omega arith
one-at-most (Word addr) = omega arith
one-at-most (Half addr) = omega arith
one-at-most (Step step) = omega arith
one-at-most Nowhere = omega arith

-- the next half
pub next-half : (image : Image) (inside : Bool) (addr next all rest : ℕ) (list : List SweepPlace) → all ≡ suc rest
    → next ≡ addr + 2
    → list ++ instructions image inside addr all
    ≡ (list ++ somewhere (instruction_at image inside addr))
    ++ instructions image (is_long (instruction_at image inside addr)) next rest
unfolding instructions
next-half image inside addr next all rest list more on =
    ap (λ n. list ++ instructions image inside addr n) more
    ∙ sym (append_assoc list _ _)
    ∙ ap (λ a. (list ++ somewhere (instruction_at image inside addr))
    ++ instructions image (is_long (instruction_at image inside addr)) a rest) (sym on)

-- none are left
pub no-halves : (image : Image) (inside : Bool) (addr n : ℕ) (list : List SweepPlace) → n ≡ 0
    → list ++ instructions image inside addr n ≡ list
unfolding instructions
no-halves image inside addr n list none =
    ap (λ k. list ++ instructions image inside addr k) none ∙ append-nil list
