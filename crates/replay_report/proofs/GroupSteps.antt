-- The groups of leaked blocks, by key.
use Rattle.std.proofs.Common.{◌≡◌, ℕ, Bool, true, false, cond, ◌&&◌, List, [], ◌∷◌, ◌++◌, filter, fold, map, refl, ap}
use Rattle.std.proofs.Common.{ap₂, sym, ◌∙◌, append_assoc, append-nil}
use Rattle.std.specs.Bool.{Decides}
use Rattle.std.specs.List.{list_any}
use Rattle.std.proofs.lemmas.List.{map-append}
use Rattle.std.proofs.lemmas.Slice.Eq.{bytes_eq-Decides}
use Rattle.error_events.specs.Groups.{same_trace}
use Rattle.leak_graph.specs.declared.leak_kind.LeakKind.{LeakKind}
use Rattle.leak_graph.specs.declared.leak_kind.LeakKind.TheVariants.{Definite, Indirect, Possible, Reachable}
use Rattle.leak_search.specs.declared.record.LeakRecord.{LeakRecord}
use Rattle.texts.specs.Distinct.{distinct}
use Rattle.texts.proofs.Grouping.{any-left, any-right, apart, put, put-next}
use Rattle.replay_report.specs.Laws.{LeaksAreGrouped}
use Rattle.replay_report.specs.Leaks.{key_of, leak_groups, no_blocks, same_key, same_leak, sum_of, with_block}
use Rattle.replay_report.specs.Leaks.{with_leak}
use Rattle.replay_report.specs.declared.leaks.LeakKey.{LeakKey}
use Rattle.replay_report.specs.declared.leaks.BlockSum.{BlockSum}
use Rattle.replay_report.proofs.LeakSteps.{filter-more, sum_more}

-- two keys are the same where they are equal
leak-Decides : (a b : LeakKind) → Decides (same_leak a b) (a ≡ b)
leak-Decides Definite Definite = (λ h. refl, λ h. refl)
leak-Decides Definite Indirect = (λ h. cc, λ h. cc)
leak-Decides Definite Possible = (λ h. cc, λ h. cc)
leak-Decides Definite Reachable = (λ h. cc, λ h. cc)
leak-Decides Indirect Definite = (λ h. cc, λ h. cc)
leak-Decides Indirect Indirect = (λ h. refl, λ h. refl)
leak-Decides Indirect Possible = (λ h. cc, λ h. cc)
leak-Decides Indirect Reachable = (λ h. cc, λ h. cc)
leak-Decides Possible Definite = (λ h. cc, λ h. cc)
leak-Decides Possible Indirect = (λ h. cc, λ h. cc)
leak-Decides Possible Possible = (λ h. refl, λ h. refl)
leak-Decides Possible Reachable = (λ h. cc, λ h. cc)
leak-Decides Reachable Definite = (λ h. cc, λ h. cc)
leak-Decides Reachable Indirect = (λ h. cc, λ h. cc)
leak-Decides Reachable Possible = (λ h. cc, λ h. cc)
leak-Decides Reachable Reachable = (λ h. refl, λ h. refl)

both-true : (a b : Bool) → (a && b) ≡ true → (a ≡ true) × (b ≡ true)
both-true true true h = (refl, refl)
both-true true false h = cc
both-true false b h = cc

key-Decides : (a b : LeakKey) → Decides (same_key a b) (a ≡ b)
key-Decides a b = (
  λ h. let both = both-true (same_leak a.kind b.kind) (same_trace a.trace b.trace) h in
      let kind = (leak-Decides a.kind b.kind).0 both.0 in
      let trace = (bytes_eq-Decides a.trace b.trace).0 both.1 in
      λ i. record { kind = kind i; trace = trace i },
  λ e. ap₂ (λ x y. x && y) ((leak-Decides a.kind b.kind).1 (ap (λ k. k.kind) e))
      ((bytes_eq-Decides a.trace b.trace).1 (ap (λ k. k.trace) e)),
)

module _ (callers : ℕ) where
  -- the sum of the records of a key
  abbrev sum_at : List LeakRecord → LeakKey → BlockSum
  sum_at records key = sum_of (filter (λ r. same_key (key_of callers r) key) records)

  -- with another record, the sum of its key grows by it, and no other
  at-others : (records : List LeakRecord) (r : LeakRecord) (key : LeakKey) → same_key (key_of callers r) key ≡ false
      → sum_at (records ++ r ∷ []) key ≡ sum_at records key
  at-others records r key h =
      ap sum_of (filter-more (λ q. same_key (key_of callers q) key) records r
      ∙ ap (λ b. cond b (filter (λ q. same_key (key_of callers q) key) records ++ r ∷ [])
      (filter (λ q. same_key (key_of callers q) key) records)) h)

  at-own : (records : List LeakRecord) (r : LeakRecord)
      → sum_at (records ++ r ∷ []) (key_of callers r) ≡ with_block (sum_at records (key_of callers r)) r.size
  at-own records r =
      let key = key_of callers r in
      ap sum_of (filter-more (λ q. same_key (key_of callers q) key) records r
      ∙ ap (λ b. cond b (filter (λ q. same_key (key_of callers q) key) records ++ r ∷ [])
      (filter (λ q. same_key (key_of callers q) key) records)) ((key-Decides key key).1 refl))
      ∙ sum_more (filter (λ q. same_key (key_of callers q) key) records) r

  -- a key that no record has
  at-none : (records : List LeakRecord) (key : LeakKey) → list_any (same_key key) (map (key_of callers) records) ≡ false
      → sum_at records key ≡ no_blocks
  unfolding sum_of
  at-none records key h = ap sum_of (none records h)
    where
      none : (records : List LeakRecord) → list_any (same_key key) (map (key_of callers) records) ≡ false
          → filter (λ q. same_key (key_of callers q) key) records ≡ []
      none [] n = refl
      none (r ∷ rs) n =
          let away = apart same_key key-Decides key (key_of callers r)
          (any-left (same_key key (key_of callers r)) _ n) in
          let rest = none rs (any-right (same_key key (key_of callers r)) (list_any (same_key key)
          (map (key_of callers) rs)) n) in
          λ i. cond (away i) (r ∷ rest i) (rest i)

  -- groups with another record
  with-leak-is : (groups : List (LeakKey × BlockSum)) (key : LeakKey) (size : ℕ) → with_leak groups key size
      ≡ put same_key key-Decides (λ sum. with_block sum size) (with_block no_blocks size) groups key
  unfolding with_leak
  with-leak-is [] key size = refl
  with-leak-is (g ∷ gs) key size =
      ap (λ rest. cond (same_key key g.0) ((g.0, with_block g.1 size) ∷ gs) (g ∷ rest)) (with-leak-is gs key size)

  abbrev groups : List LeakRecord → List (LeakKey × BlockSum)
  groups records = map (λ key. (key, sum_at records key)) (distinct same_key (map (key_of callers) records))

  groups-more : (records : List LeakRecord) (r : LeakRecord)
      → with_leak (groups records) (key_of callers r) r.size ≡ groups (records ++ r ∷ [])
  groups-more records r =
      let key = key_of callers r in
      let keys = map (key_of callers) records in
      with-leak-is (groups records) key r.size
      ∙ put-next same_key key-Decides (λ sum. with_block sum r.size) (with_block no_blocks r.size) (sum_at records)
      (sum_at (records ++ r ∷ [])) key (at-others records r) keys (at-own records r)
      (λ new. at-own records r ∙ ap (λ sum. with_block sum r.size) (at-none records key new))
      ∙ ap (λ ks. map (λ key. (key, sum_at (records ++ r ∷ []) key)) (distinct same_key ks))
      (sym (map-append (key_of callers) records (r ∷ [])))

  groups-on : (records more : List LeakRecord)
      → fold (λ gs q. with_leak gs (key_of callers q) q.size) (groups records) more ≡ groups (records ++ more)
  groups-on records [] = ap groups (sym (append-nil records))
  groups-on records (r ∷ more) =
      ap (λ gs. fold (λ gs q. with_leak gs (key_of callers q) q.size) gs more) (groups-more records r)
      ∙ groups-on (records ++ r ∷ []) more ∙ ap groups (append_assoc records (r ∷ []) more)

pub grouped-leaks : LeaksAreGrouped
unfolding leak_groups distinct
grouped-leaks callers records = groups-on callers [] records
