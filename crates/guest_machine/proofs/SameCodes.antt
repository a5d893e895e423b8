-- Which entries of a table are right for another memory, place by place.
use Rattle.std.proofs.Common.{◌≡◌, ℕ, ◌+◌, ◌%◌, ◌<◌, ◌≤◌, inl, inr, refl, sym, ap, ◌∙◌, subst, arith}
use Rattle.std.proofs.Common.{List, length, slice_set, get_or-set_same, get_or-set_other}
use Rattle.std.proofs.lemmas.Bool.{cases_eq, cases_lt}
use Rattle.std.proofs.lemmas.List.{get_or_past}
use Rattle.shadow_memory.specs.Ranges.{little_word, window}
use Rattle.shadow_memory.specs.Shadows.{Shadow, HasDefined}
use Rattle.guest_elf.specs.Profiles.{is_short}
use Rattle.instructions.specs.Codes.{code_of, row_of_code}
use Rattle.guest_machine.specs.DecodeCaches.{no_entry, entry_at, HasBoth, HasRow, HasEach, IsEntry}
use Rattle.guest_machine.specs.declared.decode_cache.Decoded.{Decoded}

-- a memory has the code of an entry as another one has it
abbrev pub HasSame : (ℕ → ℕ) → (ℕ → ℕ) → (ℕ → Shadow) → ℕ → Decoded → Type 0
HasSame bytes others shadows len entry =
    HasDefined bytes shadows entry.addr len (little_word (window others entry.addr len))

-- the entry of a place is that of an older table, and where the place lies below another, a memory has its code
pub record IsFit (bytes others : ℕ → ℕ) (shadows : ℕ → Shadow) (len : ℕ) (old new : List Decoded)
    (end k : ℕ) : Type 0 where
  pub same : entry_at new k ≡ entry_at old k
  pub has : k < end → HasSame bytes others shadows len (entry_at new k)

abbrev pub AreFit : (ℕ → ℕ) → (ℕ → ℕ) → (ℕ → Shadow) → ℕ → List Decoded → List Decoded → ℕ → Type 0
AreFit bytes others shadows len old new end =
    (k : ℕ) → IsEntry (entry_at new k) → IsFit bytes others shadows len old new end k

no-entry : (entry : Decoded) → entry ≡ no_entry → IsEntry entry → ⊥
no-entry entry e is =
    let one : 1 % 2 ≡ 0 = subst IsEntry e is in
    omega (arith, one)

-- a place is emptied
pub dropped_none : (entries : List Decoded) (place : ℕ) → place < length entries
    → IsEntry (entry_at (slice_set entries place no_entry) place) → ⊥
dropped_none entries place within is =
    no-entry (entry_at (slice_set entries place no_entry) place)
    (get_or-set_same entries place no_entry no_entry within) is

pub dropped_same : (entries : List Decoded) (place : ℕ) → place < length entries → (k : ℕ)
    → IsEntry (entry_at (slice_set entries place no_entry) k)
    → entry_at (slice_set entries place no_entry) k ≡ entry_at entries k
dropped_same entries place within k is = elim (cases_eq k place) [
  | inl same ↦
      absurd (dropped_none entries place within
      (subst (λ n. IsEntry (entry_at (slice_set entries place no_entry) n)) same is))
  | inr other ↦ get_or-set_other entries place k no_entry no_entry other
]

pub fit_begun : (bytes others : ℕ → ℕ) (shadows : ℕ → Shadow) (len : ℕ) (entries : List Decoded)
    → AreFit bytes others shadows len entries entries 0
fit_begun bytes others shadows len entries k is = record { same = refl; has = λ below. absurd (omega (arith, below)) }

-- another place
pub fit_more : (bytes others : ℕ → ℕ) (shadows : ℕ → Shadow) (len : ℕ) (old mid new : List Decoded) (end : ℕ)
    → AreFit bytes others shadows len old mid end
    → ((k : ℕ) → IsEntry (entry_at new k) → entry_at new k ≡ entry_at mid k)
    → (IsEntry (entry_at new end) → HasSame bytes others shadows len (entry_at new end))
    → AreFit bytes others shadows len old new (end + 1)
fit_more bytes others shadows len old mid new end fit left has k is =
    let was = fit k (subst IsEntry (left k is) is) in
    record {
      same = left k is ∙ was.same;
      has = λ below. elim (cases_eq k end) [
        | inl same ↦ subst (λ n. HasSame bytes others shadows len (entry_at new n)) (sym same)
            (has (subst (λ n. IsEntry (entry_at new n)) same is))
        | inr other ↦ subst (HasSame bytes others shadows len) (sym (left k is)) (was.has (omega (arith, below, other)))
      ];
    }

-- so a memory has the code of each entry that is left
pub fit_each : (bytes others : ℕ → ℕ) (shadows known : ℕ → Shadow) (len : ℕ) (old new : List Decoded) (end : ℕ)
    → length new ≤ end → AreFit bytes others shadows len old new end → HasEach others known len old
    → HasEach bytes shadows len new
fit_each bytes others shadows known len old new end long fit each k is = elim (cases_lt k end) [
  | inl below ↦
      let here = fit k is in
      let was = subst (λ (e : Decoded). HasRow others known len e.addr e.row) (sym here.same)
      (each k (subst IsEntry here.same is)) in
      let code = here.has below in
      record {
        row = ap (λ n. row_of_code (code_of len n)) code.value ∙ was.row;
        length = ap is_short code.value ∙ was.length;
        undef = code.undef;
        bad = code.bad;
      }
  | inr past ↦ absurd (no-entry (entry_at new k) (get_or_past new k no_entry (omega (arith, long, past))) is)
]

-- a memory that has the same codes as another one for all entries has what they decode to
pub all_fit : (bytes others : ℕ → ℕ) (shadows known : ℕ → Shadow) (len : ℕ) (entries : List Decoded)
    → ((k : ℕ) → IsEntry (entry_at entries k) → HasSame bytes others shadows len (entry_at entries k))
    → HasEach others known len entries → HasEach bytes shadows len entries
all_fit bytes others shadows known len entries same each k is =
    let code = same k is in
    let was = each k is in
    record {
      row = ap (λ n. row_of_code (code_of len n)) code.value ∙ was.row;
      length = ap is_short code.value ∙ was.length;
      undef = code.undef;
      bad = code.bad;
    }

-- tables with fewer of the entries
pub each_left : (bytes : ℕ → ℕ) (shadows : ℕ → Shadow) (len : ℕ) (old new : List Decoded)
    → ((k : ℕ) → IsEntry (entry_at new k) → entry_at new k ≡ entry_at old k) → HasEach bytes shadows len old
    → HasEach bytes shadows len new
each_left bytes shadows len old new left each k is =
    subst (λ (e : Decoded). HasRow bytes shadows len e.addr e.row) (sym (left k is))
    (each k (subst IsEntry (left k is) is))

pub both_left : (bytes : ℕ → ℕ) (shadows : ℕ → Shadow) (words new_words halves new_halves : List Decoded)
    → ((k : ℕ) → IsEntry (entry_at new_words k) → entry_at new_words k ≡ entry_at words k)
    → ((k : ℕ) → IsEntry (entry_at new_halves k) → entry_at new_halves k ≡ entry_at halves k)
    → HasBoth bytes shadows words halves → HasBoth bytes shadows new_words new_halves
both_left bytes shadows words new_words halves new_halves left other has = record {
  words = each_left bytes shadows 4 words new_words left has.words;
  halves = each_left bytes shadows 2 halves new_halves other has.halves;
}
