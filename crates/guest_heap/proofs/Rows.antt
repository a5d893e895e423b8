-- Parts in a row, as some come, go or are copied.
use Rattle.std.proofs.Common.{◌/◌, ◌%◌, ◌≡◌, ℕ, zero, suc, ◌-◌, ◌<◌, ◌≤◌, List, [], ◌∷◌, ◌++◌, Option, None, Some}
use Rattle.std.proofs.Common.{slice_index_or, slice_get, vec_len, subst, length, refl, ap, sym, ◌∙◌, arith, rules}
use Rattle.std.proofs.Math.Path.{fun_ext}
use Rattle.std.specs.Option.{option_to_list}
use Rattle.std.proofs.lemmas.List.{get_or_default, get_or_past}
use Rattle.std.specs.declared.alloc.Global.{Global}
use Rattle.std.specs.declared.rc.Rc.{Rc}
use Rattle.std.specs.declared.vec.Vec.{Vec}
use Rattle.guest_heap.specs.Entries.{Entries, entries_at}
use Rattle.guest_heap.specs.Rows.{Grid, grid_of, entries_along}
use Rattle.guest_heap.specs.declared.table.row.Row.{Row}

-- another part, which is absent
one-more : {T : Type 0} (xs : List (Option T)) (i : ℕ)
    → slice_index_or (xs ++ (None ∷ [])) i None ≡ slice_index_or xs i None
one-more [] zero = refl
one-more [] (suc i) = refl
one-more (x ∷ xs) zero = refl
one-more (x ∷ xs) (suc i) = one-more xs i

get-is : {T : Type 0} (xs : List T) (n : ℕ) (x d : T) → slice_get xs n ≡ Some x → slice_index_or xs n d ≡ x
get-is [] n x d h = cc
get-is (y ∷ ys) zero x d h = cc
get-is (y ∷ ys) (suc n) x d h = get-is ys n x d h

got-some : {T : Type 0} (xs : List T) (n : ℕ) (x : T) → slice_get xs n ≡ Some x → 0 < length xs
got-some [] n x h = cc
got-some (y ∷ ys) n x h = let some : 0 < suc (length ys) = omega arith in some

-- the result of `pop` on a list whose last item is known
pub last_is : {T : Type 0} (xs : Vec T Global) (x : T) (last : Option T)
    → slice_get xs.items (length xs.items - 1) ≡ Some x
    → ((d : T) → 0 < vec_len xs → last ≡ Some (slice_index_or xs.items (vec_len xs - 1) d)) → last ≡ Some x
last_is xs x last there popped =
    let long : vec_len xs ≡ length xs.items = search rules in
    let some : 0 < vec_len xs = omega (arith, got-some xs.items _ x there) in
    let P : ℕ → Type 0 = λ n. last ≡ Some (slice_index_or xs.items (n - 1) x) in
    subst P long (popped x some) ∙ ap Some (get-is xs.items _ x x there)

pub part_by_value : {P : Type 0} (entries : P → Entries) (p q : Rc P Global) → q.value ≡ p.value
    → entries_at entries (Some q) ≡ entries_at entries (Some p)
unfolding entries_at
part_by_value entries p q e = rw e refl

module _ {P : Type 0} (entries : P → Entries) where
  pub none_grid : (row : Row P) → row.parts.items ≡ [] → grid_of entries row ≡ (λ _ _. None)
  unfolding grid_of entries_at
  none_grid row e = fun_ext (λ i. ap (λ xs. entries_at entries (slice_index_or xs i None)) e)

  pub same_grid : (a b : Row P)
      → ((i : ℕ) → entries_at entries (slice_index_or b.parts.items i None)
      ≡ entries_at entries (slice_index_or a.parts.items i None))
      → grid_of entries b ≡ grid_of entries a
  unfolding grid_of
  same_grid a b h = fun_ext h

  pub kept_grid : (a b : Row P) → b.parts.items ≡ a.parts.items → grid_of entries b ≡ grid_of entries a
  kept_grid a b e = same_grid a b (λ i. ap (λ xs. entries_at entries (slice_index_or xs i None)) e)

  pub grown_grid : (a b : Row P) → b.parts.items ≡ a.parts.items ++ (None ∷ [])
      → grid_of entries b ≡ grid_of entries a
  grown_grid a b e =
      same_grid a b (λ i. ap (λ xs. entries_at entries (slice_index_or xs i None)) e
      ∙ ap (entries_at entries) (one-more a.parts.items i))

  -- the last part, which is absent, is removed
  pub shrunk_grid : (a b : Row P) (last : Option (Option (Rc P Global)))
      → a.parts.items ≡ b.parts.items ++ option_to_list last → last ≡ Some None
      → grid_of entries b ≡ grid_of entries a
  shrunk_grid a b last e none =
      sym (grown_grid b a (e ∙ ap (λ x. b.parts.items ++ option_to_list x) none))

  pub part_in : (row : Row P) (i : ℕ) (slot : Option (Rc P Global)) → slot ≡ slice_index_or row.parts.items i slot
      → i < vec_len row.parts → entries_at entries slot ≡ grid_of entries row i
  unfolding grid_of
  part_in row i slot there inside =
      let long : vec_len row.parts ≡ length row.parts.items = search rules in
      ap (entries_at entries) (there ∙ get_or_default row.parts.items i slot None (omega arith))

  -- past the end of a row there is no part
  pub past_grid : (row : Row P) (i : ℕ) → vec_len row.parts ≤ i → grid_of entries row i ≡ (λ _. None)
  unfolding grid_of entries_at
  past_grid row i past =
      let long : vec_len row.parts ≡ length row.parts.items = search rules in
      ap (entries_at entries) (get_or_past row.parts.items i None (omega arith))

  pub same_along : (w : ℕ) (a b : Row P) → grid_of entries b ≡ grid_of entries a
      → entries_along w entries b ≡ entries_along w entries a
  unfolding entries_along
  same_along w a b e = let F : Grid → Entries = λ grid k. grid (k / w) (k % w) in ap F e

  pub empty_grid : (row : Row P) → vec_len row.parts ≡ 0 → grid_of entries row ≡ (λ _ _. None)
  empty_grid row none = fun_ext (λ i. past_grid row i (omega arith))

  pub none_along : (w : ℕ) (row : Row P) → row.parts.items ≡ [] → entries_along w entries row ≡ (λ _. None)
  unfolding entries_along
  none_along w row e = let F : Grid → Entries = λ grid k. grid (k / w) (k % w) in ap F (none_grid row e)

  pub empty_along : (w : ℕ) (row : Row P) → vec_len row.parts ≡ 0 → entries_along w entries row ≡ (λ _. None)
  unfolding entries_along
  empty_along w row none = let F : Grid → Entries = λ grid k. grid (k / w) (k % w) in ap F (empty_grid row none)
