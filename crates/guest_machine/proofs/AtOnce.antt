-- What a load and a store do where their address is defined and each byte may be accessed.
use Rattle.std.proofs.Common.{◌≡◌, ℕ, ◌++◌, [], Bool, true, false, refl, sym, ap, ap₂, ◌∙◌, eqb, None, cond, List}
use Rattle.shadow_memory.specs.Ranges.{little_word, window}
use Rattle.shadow_memory.specs.Shadows.{first_inaccessible, HasDefined}
use Rattle.definedness.specs.declared.Bits.{Bits}
use Rattle.instructions.specs.Alu.{extended}
use Rattle.instructions.specs.Widths.{width_len}
use Rattle.instructions.specs.declared.width.Width.{Width}
use Rattle.instructions.specs.declared.width.Width.TheVariants.{Byte, Half, Word}
use Rattle.error_events.specs.declared.event.Event.{Event}
use Rattle.error_events.specs.declared.kind.Kind.{Kind}
use Rattle.error_events.specs.declared.kind.Kind.TheVariants.{Read, Write}
use Rattle.guest_machine.specs.State.{Core}
use Rattle.guest_machine.specs.Registers.{known, register, set_register, tested, defined}
use Rattle.guest_machine.specs.Errors.{access_errors, event_about, event_unless, here, taken_undef, value_errors}
use Rattle.guest_machine.specs.Effects.{moved_to, load, raising, results_in, store, target}
use Rattle.guest_machine.specs.Doing.{stored_at, storing}

-- a register with no undefined bit stays, and is no error
test-passes : (core : Core) (r : ℕ) → (register core r).undef ≡ 0 → tested core r ≡ core
unfolding tested
test-passes core r known_is = ap (λ n. cond (eqb n 0) core (defined core r)) known_is

no-value-error : (core : Core) (r : ℕ) → (register core r).undef ≡ 0 → value_errors core r ≡ []
unfolding event_unless
no-value-error core r known_is = ap (λ n. event_unless (eqb n 0) (here core) Kind.Value) known_is

-- bytes that may be accessed are no error
no-access-error : (core : Core) (kind : Kind) (start n : ℕ) → first_inaccessible core.shadow start n ≡ None
    → access_errors core kind start n ≡ []
unfolding event_about
no-access-error core kind start n none = ap (event_about core.stack core.blocks (here core) kind) none

-- no undefined bit is repeated upwards
nothing-extended : (width : Width) (signed : Bool) → extended width signed 0 ≡ 0
unfolding extended
nothing-extended Byte true = refl
nothing-extended Half true = refl
nothing-extended Word true = refl
nothing-extended Byte false = refl
nothing-extended Half false = refl
nothing-extended Word false = refl

abbrev bits_of : ℕ → ℕ → Bits
bits_of value undef = record { value = value; undef = undef }

-- a load of a number that is defined, by an address that is
pub load-at-once : (core : Core) (next : ℕ) (bytes : ℕ → ℕ) (width : Width) (signed : Bool) (rd rs1 imm value : ℕ)
    → (register core rs1).undef ≡ 0
    → HasDefined bytes core.shadow (target core rs1 imm) (width_len width) value
    → results_in core next rd (known (extended width signed value))
    ≡ load core next width signed rd rs1 imm (window bytes (target core rs1 imm) (width_len width))
load-at-once core next bytes width signed rd rs1 imm value known_is has =
    let start = target core rs1 imm in
    let n = width_len width in
    let stays = test-passes core rs1 known_is in
    let undef : extended width signed (taken_undef (tested core rs1) start n) ≡ 0 =
    ap (λ (now : Core). extended width signed (taken_undef now start n)) stays ∙ ap (extended width signed) has.undef
    ∙ nothing-extended width signed in
    let taken : extended width signed (little_word (window bytes start n)) ≡ extended width signed value =
    ap (extended width signed) has.value in
    let errors : (value_errors core rs1 ++ access_errors (tested core rs1) (Read n) start n) ≡ [] =
    ap₂ (λ (xs ys : List Event). xs ++ ys) (no-value-error core rs1 known_is)
    (ap (λ (now : Core). access_errors now (Read n) start n) stays ∙ no-access-error core (Read n) start n has.bad) in
    let bits : bits_of (extended width signed (little_word (window bytes start n)))
    (extended width signed (taken_undef (tested core rs1) start n)) ≡ known (extended width signed value) =
    ap₂ bits_of taken undef in
    sym (ap₂ raising (ap₂ (λ (now : Core) (b : Bits). moved_to (set_register now rd b) next) stays bits) errors)

-- a store over bytes that may be accessed, by an address that is defined
pub store-at-once : (core : Core) (next : ℕ) (width : Width) (rs1 rs2 imm : ℕ) → (register core rs1).undef ≡ 0
    → first_inaccessible core.shadow (target core rs1 imm) (width_len width) ≡ None
    → stored_at core next (target core rs1 imm) (width_len width) (register core rs2)
    ≡ store core next width rs1 rs2 imm
store-at-once core next width rs1 rs2 imm known_is none =
    let start = target core rs1 imm in
    let n = width_len width in
    let stays = test-passes core rs1 known_is in
    let errors : (value_errors core rs1 ++ access_errors (tested core rs1) (Write n) start n) ≡ [] =
    ap₂ (λ (xs ys : List Event). xs ++ ys) (no-value-error core rs1 known_is)
    (ap (λ (now : Core). access_errors now (Write n) start n) stays ∙ no-access-error core (Write n) start n none) in
    sym (ap₂ (λ (now : Core) (raised : List Event). storing now next start n (register now rs2) raised) stays errors)
