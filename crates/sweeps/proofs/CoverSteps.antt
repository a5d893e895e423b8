-- Another run of which a table says what it has executed.
use Rattle.std.proofs.Common.{◌≡◌, ℕ, ◌+◌, ◌*◌, ◌<◌, ◌≤◌, ◌||◌, Bool, true, false, List, [], ◌∷◌}
use Rattle.std.proofs.Common.{◌++◌, if◌then◌else◌}
use Rattle.std.proofs.Common.{Some, None, refl, ap, sym, ◌∙◌, subst, arith, inl, inr, length, get_or}
use Rattle.std.proofs.Common.{append_assoc, append-nil}
use Rattle.std.specs.List.{All, list_any}
use Rattle.std.specs.Prelude.{nat_lt, slice_index_or}
use Rattle.std.proofs.lemmas.Bool.{true≢false}
use Rattle.std.proofs.lemmas.List.Folds.{list_any-append}
use Rattle.std.proofs.lemmas.Option.{none-some}
use Rattle.guest_elf.specs.Profiles.{unit}
use Rattle.guest_elf.specs.declared.profile.Isa.{Isa}
use Rattle.checkpoints.specs.Effects.{IsOfSetup}
use Rattle.checkpoints.specs.declared.effect.Effect.{Effect}
use Rattle.checkpoints.specs.declared.forks.Fork.{Fork}
use Rattle.guest_machine.specs.declared.setup.Setup.{Setup}
use Rattle.run_values.specs.declared.alteration.Alteration.{Alteration}
use Rattle.std.proofs.Math.Path.{transport}
use Rattle.checkpoints.specs.Known.{IsKnown, covers}
use Rattle.checkpoints.specs.Merged.{AlsoEnters, AlsoSays}
use Rattle.checkpoints.specs.Sides.{Side, has_side, places, sided, span}
use Rattle.checkpoints.specs.declared.sides.Sides.{Sides}
use Rattle.checkpoints.proofs.AlsoSteps.{covers-on, or-or}
use Rattle.run_values.specs.declared.span.Span.{Span}
use Rattle.scenario.specs.Edits.{row}
use Rattle.scenario.specs.Scenario.{Scenario, first_state, limit_of}
use Rattle.sweep_plans.specs.Changes.{edit_of, second_of}
use Rattle.sweep_plans.specs.Plans.{HasNext, changes_of, has_only_bytes, place_at}
use Rattle.sweep_plans.specs.declared.change.Change.{Change}
use Rattle.sweep_plans.specs.declared.change.Change.TheVariants.{Byte}
use Rattle.sweep_plans.specs.declared.plan.Plan.{Plan}
use Rattle.sweep_plans.specs.declared.standing.Standing.{Standing}
use Rattle.sweep_plans.specs.declared.standing.Standing.TheVariants as At
use Rattle.sweep_plans.proofs.ByteSteps.{only-bytes}
use Rattle.sweeps.specs.Covered.{AreCovered, CoversMore, FitsPlan, IsByte, MayCover, apart_in, run_covers, some_covers}
use Rattle.sweeps.specs.Memory.{memory_at}
use Rattle.sweeps.specs.Outcomes.{edited}
use Rattle.sweeps.specs.Standing.{IsAt, IsBelow, all_changes, pairs_at, standing_byte, standing_in}
use Rattle.sweeps.proofs.ChangeSteps.{there}
use Rattle.sweeps.proofs.PlaceSteps.{all-at}

-- ---- changes of a byte

pub byte-effect : (sc : Scenario) (standing : Standing) (change : Change) → IsByte standing → IsAt sc standing change
    → IsOfSetup (row sc (edit_of change)).effect
byte-effect sc (At.Byte offset old) (Byte at value) byte is = tt
byte-effect sc (At.Byte offset old) _ byte is = absurd is
byte-effect sc _ _ byte is = absurd byte

pub byte-lone : (sc : Scenario) (standing : Standing) (change : Change) → IsByte standing → IsAt sc standing change
    → second_of change ≡ None
byte-lone sc (At.Byte offset old) (Byte at value) byte is = refl
byte-lone sc (At.Byte offset old) _ byte is = absurd is
byte-lone sc _ _ byte is = absurd byte

pub byte-changes : (sc : Scenario) (plan : Plan) (standing : Standing) → IsByte standing
    → changes_of plan standing ≡ all_changes sc plan (Some standing)
unfolding memory_at pairs_at
byte-changes sc plan (At.Byte offset old) byte = sym (append-nil (changes_of plan (At.Byte offset old)))
byte-changes sc plan _ byte = absurd byte

byte-below : (last : ℕ) (standing : Standing) → IsByte standing → IsBelow last standing
byte-below last (At.Byte offset old) byte = tt
byte-below last _ byte = absurd byte

pub byte-next : (standing : Standing) → IsByte standing → HasNext standing
byte-next (At.Byte offset old) byte = tt
byte-next _ byte = absurd byte

pub byte-at : (sc : Scenario) (plan : Plan) (standing : Standing) → sc.step ≤ limit_of sc → sc.marks ≡ []
    → IsByte standing → All (IsAt sc standing) (changes_of plan standing)
byte-at sc plan standing near none byte = all-at sc plan standing near none (byte-below sc.step standing byte)

-- ---- one more run

or-false : (b : Bool) → (b || false) ≡ b
or-false true = refl
or-false false = refl

-- what the unedited run has executed by some step is among what is known already
absorbs : (low base rest : Bool) → (low ≡ true → base ≡ true) → (base || rest) ≡ ((base || rest) || low)
absorbs false base rest h = sym (or-false (base || rest))
absorbs true true rest h = refl
absorbs true false rest h = absurd (true≢false (sym (h refl)))

one-more : (sc : Scenario) (done : List Change) (change : Change) (side : Side)
    → (some_covers sc done side || run_covers (edited sc change) side) ≡ some_covers sc (done ++ change ∷ []) side
one-more sc done change side =
    let test = λ (change : Change). run_covers (edited sc change) side in
    or-or (run_covers sc side) (list_any test done) (test change)
    ∙ ap (λ b. run_covers sc side || b)
    (sym (list_any-append test done (change ∷ []) ∙ ap (λ b. list_any test done || b) (or-false (test change))))

pub covers-one : (sc : Scenario) (change : Change) (from first : ℕ) (old new : List Sides) → from ≤ sc.step
    → length new ≡ length old
    → ((i : ℕ) (on others : Bool) (d : Sides) → i < length old
    → AlsoSays others (first_state sc) sc.setup sc.marks from (sided (first + apart_in sc * i) on) (get_or old i d)
    → has_side (get_or new i d) on ≡ (others || run_covers (edited sc change) (sided (first + apart_in sc * i) on)))
    → CoversMore sc first (change ∷ []) old new
covers-one sc change from first old new l rows says done len are = record {
  rows = rows ∙ are.rows;
  says = λ i on d less.
      let within = subst (λ n. i < n) rows less in
      let side = sided (first + apart_in sc * i) on in
      let known = absorbs (covers (first_state sc) sc.setup sc.marks from side) (run_covers sc side)
      (list_any (λ (change : Change). run_covers (edited sc change) side) done)
      (covers-on (first_state sc) sc.setup sc.marks from sc.step side l) in
      says i on (some_covers sc done side) d within (are.says i on d within ∙ known)
      ∙ one-more sc done change side;
}

-- what a table is after an edited run, by what the setup and marks of the scenario are equal to
pub entered-for : (effect : Effect) (fork : Fork) (sc : Scenario) (setup : Setup) (marks : List Alteration)
    (step first : ℕ) (old new : List Sides) → setup ≡ sc.setup → marks ≡ sc.marks → step ≡ sc.step
    → AlsoEnters effect fork first setup marks step old new
    → AlsoEnters effect fork first sc.setup sc.marks sc.step old new
entered-for effect fork sc setup marks step first old new given marked chosen =
    transport (λ i. AlsoEnters effect fork first (given i) (marked i) (chosen i) old new)

-- ---- several

pub covers-none : (sc : Scenario) (first : ℕ) (table : List Sides) → CoversMore sc first [] table table
covers-none sc first table done len are =
    subst (λ (changes : List Change). AreCovered sc changes (span first len) table) (sym (append-nil done)) are

pub covers-join : (sc : Scenario) (first : ℕ) (xs ys : List Change) (old now new : List Sides)
    → CoversMore sc first xs old now → CoversMore sc first ys now new → CoversMore sc first (xs ++ ys) old new
covers-join sc first xs ys old now new one two done len are =
    subst (λ (changes : List Change). AreCovered sc changes (span first len) new) (append_assoc done xs ys)
    (two (done ++ xs) len (one done len are))

-- a table without rows
no-rows : (sc : Scenario) (changes : List Change) (range : Span) (table : List Sides) → table ≡ []
    → places (apart_in sc) range.len ≡ 0 → AreCovered sc changes range table
no-rows sc changes range table empty none = record {
  rows = ap length empty ∙ sym none;
  says = λ i on d less.
      let short : i < 0 = subst (λ (xs : List Sides). i < length xs) empty less in absurd (omega arith);
}

pub covers-empty : (sc : Scenario) (first : ℕ) (changes : List Change) (old new : List Sides) → old ≡ [] → new ≡ old
    → CoversMore sc first changes old new
covers-empty sc first changes old new empty same done len are =
    no-rows sc (done ++ changes) (span first len) new (same ∙ empty) (sym are.rows ∙ ap length empty)

pub no-length : (xs : List Sides) → length xs ≡ 0 → xs ≡ []
no-length [] h = refl
no-length (x ∷ xs) h = absurd (omega arith)

pub few-apart : (isa : Isa) → unit isa ≤ 4
unfolding unit
few-apart isa = go isa.compressed
  where
    go : (compressed : Bool) → (if compressed then 2 else 4) ≤ 4
    go true = omega arith
    go false = omega arith

no-places : (isa : Isa) (len : ℕ) → len ≡ 0 → places (unit isa) len ≡ 0
unfolding unit
no-places isa len none = ap (places (unit isa)) none ∙ go isa.compressed
  where
    go : (compressed : Bool) → places (if compressed then 2 else 4) 0 ≡ 0
    go true = refl
    go false = refl

pub covers-nothing : (sc : Scenario) (range : Span) (table : List Sides) → range.len ≡ 0 → table ≡ []
    → AreCovered sc [] range table
covers-nothing sc range table none empty =
    no-rows sc [] range table empty (no-places (first_state sc).core.isa range.len none)

-- that of the unedited run
pub covers-first : (sc : Scenario) (range : Span) (table : List Sides)
    → IsKnown (first_state sc) sc.setup sc.marks sc.step range table → AreCovered sc [] range table
covers-first sc range table known = record {
  rows = known.rows;
  says = λ i on d less.
      let says = known.says i on d less in
      says.once ∙ sym (or-false (run_covers sc (sided (range.start + apart_in sc * i) on)));
}

-- ---- where a table can say so

pub not-byte : (standing : Standing) (table : List Sides)
    → ((offset old : ℕ) → standing ≡ At.Byte offset old → ⊥) → MayCover standing table → table ≡ []
not-byte (At.Byte offset old) table other may = absurd (other offset old refl)
not-byte _ table other may = may

may-byte : (standing : Standing) (table : List Sides) → IsByte standing → MayCover standing table
may-byte (At.Byte offset old) table byte = tt
may-byte _ table byte = absurd byte

may-empty : (standing : Standing) (table : List Sides) → table ≡ [] → MayCover standing table
may-empty (At.Byte offset old) table empty = tt
may-empty _ table empty = empty

byte-there : (sc : Scenario) (offset : ℕ) (standing : Standing) → standing_byte sc offset ≡ Some standing
    → IsByte standing
unfolding standing_byte
byte-there sc offset standing h =
    let byte : Standing = At.Byte offset (slice_index_or sc.setup.input offset 0) in
    subst IsByte (there (nat_lt offset (length sc.setup.input)) byte standing h).1 tt

only-byte : (sc : Scenario) (plan : Plan) (i : ℕ) → has_only_bytes plan ≡ true → (standing : Standing)
    → standing_in sc plan (place_at plan i) ≡ Some standing → IsByte standing
only-byte sc plan i only =
    only-bytes plan only (λ place. (standing : Standing) → standing_in sc plan place ≡ Some standing → IsByte standing)
    (λ offset standing is. byte-there sc offset standing is) (λ standing is. absurd (none-some standing is)) i

pub may-cover : (sc : Scenario) (plan : Plan) (i : ℕ) (range : Span) (changes : List Change) (table : List Sides)
    (standing : Standing) → FitsPlan plan range → AreCovered sc changes range table
    → standing_in sc plan (place_at plan i) ≡ Some standing → MayCover standing table
may-cover sc plan i range changes table standing (inl only) are is =
    may-byte standing table (only-byte sc plan i only standing is)
may-cover sc plan i range changes table standing (inr none) are is =
    may-empty standing table
    (no-length table (are.rows ∙ no-places (first_state sc).core.isa range.len none))
