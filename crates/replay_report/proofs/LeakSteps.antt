-- Records, their sums and their groups, as another record is taken.
use Rattle.std.proofs.Common.{◌≡◌, ℕ, ◌+◌, ◌-◌, zero-add, Bool, true, false, not, cond, ◌&&◌, List, [], ◌∷◌, ◌++◌}
use Rattle.std.proofs.Common.{filter, length, min, sum_by, Some}
use Rattle.std.proofs.Common.{unwrap_or, refl, ap, ap₂, ◌∙◌, append-nil, arith}
use Rattle.std.proofs.lemmas.List.{length-append}
use Rattle.std.proofs.lemmas.List.Elements.{filter-append}
use Rattle.std.proofs.lemmas.List.Sums.{sum_by-append, fold-append}
use Rattle.indexmap.specs.IndexMap.{insert_entry}
use Rattle.std.specs.Map.{lookup}
use Rattle.guest_elf.specs.declared.image.Image.{Image}
use Rattle.error_events.specs.Groups.{most}
use Rattle.error_events.proofs.KeySteps.{filled-eq}
use Rattle.leak_graph.specs.declared.leak_kind.LeakKind.{LeakKind}
use Rattle.leak_graph.specs.declared.leak_kind.LeakKind.TheVariants.{Definite, Indirect, Possible, Reachable}
use Rattle.leak_graph.specs.contracts.leak_kind.LeakKindPartialEq.TheImpl.{ghosts as of_kinds}
use Rattle.leak_search.specs.declared.record.LeakRecord.{LeakRecord}
use Rattle.suppressions.specs.Rules.{Rule}
use Rattle.replay_report.specs.Leaks.{is_hidden, shown_records, hidden_records, same_leak, of_kind, sum_of, no_blocks}
use Rattle.replay_report.specs.Leaks.{with_block, same_key, key_of, with_leak, leak_groups}
use Rattle.replay_report.specs.declared.leaks.LeakKey.{LeakKey}
use Rattle.replay_report.specs.declared.leaks.BlockSum.{BlockSum}
use Rattle.replay_report.specs.contracts.leaks.LeakKeyPartialEq.TheImpl.{ghosts}

pub filter-more : {X : Type 0} (test : X → Bool) (xs : List X) (x : X)
    → filter test (xs ++ x ∷ []) ≡ cond (test x) (filter test xs ++ x ∷ []) (filter test xs)
filter-more test xs x = filter-append test xs (x ∷ []) ∙ go (test x)
  where
    go : (b : Bool) → filter test xs ++ cond b (x ∷ []) [] ≡ cond b (filter test xs ++ x ∷ []) (filter test xs)
    go true = refl
    go false = append-nil (filter test xs)

-- a record that no suppression matches, and one that some matches
pub shown_more : (rules : List Rule) (image : Image) (records : List LeakRecord) (r : LeakRecord)
    → is_hidden rules image r ≡ false
    → shown_records rules image (records ++ r ∷ []) ≡ shown_records rules image records ++ r ∷ []
unfolding shown_records
shown_more rules image records r h =
    filter-more (λ q. not (is_hidden rules image q)) records r
    ∙ ap (λ b. cond (not b) (filter (λ q. not (is_hidden rules image q)) records ++ r ∷ [])
    (filter (λ q. not (is_hidden rules image q)) records)) h

pub shown_same : (rules : List Rule) (image : Image) (records : List LeakRecord) (r : LeakRecord)
    → is_hidden rules image r ≡ true
    → shown_records rules image (records ++ r ∷ []) ≡ shown_records rules image records
unfolding shown_records
shown_same rules image records r h =
    filter-more (λ q. not (is_hidden rules image q)) records r
    ∙ ap (λ b. cond (not b) (filter (λ q. not (is_hidden rules image q)) records ++ r ∷ [])
    (filter (λ q. not (is_hidden rules image q)) records)) h

pub hidden_more : (rules : List Rule) (image : Image) (records : List LeakRecord) (r : LeakRecord)
    → is_hidden rules image r ≡ true
    → hidden_records rules image (records ++ r ∷ []) ≡ hidden_records rules image records ++ r ∷ []
unfolding hidden_records
hidden_more rules image records r h =
    filter-more (is_hidden rules image) records r
    ∙ ap (λ b. cond b (filter (is_hidden rules image) records ++ r ∷ []) (filter (is_hidden rules image) records)) h

pub hidden_same : (rules : List Rule) (image : Image) (records : List LeakRecord) (r : LeakRecord)
    → is_hidden rules image r ≡ false
    → hidden_records rules image (records ++ r ∷ []) ≡ hidden_records rules image records
unfolding hidden_records
hidden_same rules image records r h =
    filter-more (is_hidden rules image) records r
    ∙ ap (λ b. cond b (filter (is_hidden rules image) records ++ r ∷ []) (filter (is_hidden rules image) records)) h

-- sums --

stands : (a b : ℕ) → min (a + b) most ≡ min (min a most + b) most
stands a b = omega arith

pub sum_more : (records : List LeakRecord) (r : LeakRecord)
    → sum_of (records ++ r ∷ []) ≡ with_block (sum_of records) r.size
unfolding sum_of
sum_more records r =
    let bytes = ap (λ n. min n most) (sum_by-append (λ q. q.size) records (r ∷ [])
    ∙ ap (λ n. sum_by (λ q. q.size) records + n) (zero-add r.size))
    ∙ stands (sum_by (λ q. q.size) records) r.size in
    let blocks = ap (λ n. min n most) (length-append records (r ∷ [])) ∙ stands (length records) 1 in
    λ i. record { bytes = bytes i; blocks = blocks i }

pub kind_more : (kind : LeakKind) (records : List LeakRecord) (r : LeakRecord) → same_leak kind r.kind ≡ true
    → sum_of (of_kind kind (records ++ r ∷ [])) ≡ with_block (sum_of (of_kind kind records)) r.size
unfolding of_kind
kind_more kind records r h =
    ap sum_of (filter-more (λ q. same_leak kind q.kind) records r
    ∙ ap (λ b. cond b (filter (λ q. same_leak kind q.kind) records ++ r ∷ [])
    (filter (λ q. same_leak kind q.kind) records)) h)
    ∙ sum_more (filter (λ q. same_leak kind q.kind) records) r

pub kind_same : (kind : LeakKind) (records : List LeakRecord) (r : LeakRecord) → same_leak kind r.kind ≡ false
    → sum_of (of_kind kind (records ++ r ∷ [])) ≡ sum_of (of_kind kind records)
unfolding of_kind
kind_same kind records r h =
    ap sum_of (filter-more (λ q. same_leak kind q.kind) records r
    ∙ ap (λ b. cond b (filter (λ q. same_leak kind q.kind) records ++ r ∷ [])
    (filter (λ q. same_leak kind q.kind) records)) h)

-- keys --

pub leak_eq : (a b : LeakKind) → of_kinds.eq a b ≡ same_leak a b
leak_eq Definite Definite = refl
leak_eq Indirect Indirect = refl
leak_eq Possible Possible = refl
leak_eq Reachable Reachable = refl
leak_eq _ _ = refl

key_eq : (a b : LeakKey) → ghosts.eq a b ≡ same_key a b
key_eq a b = ap₂ (λ x y. x && y) (leak_eq a.kind b.kind) (filled-eq a.trace b.trace _ _ (λ e. ap (λ n. 24 - n) e))

-- a block that is put into a map of sums by key
pub leak_inserted : (groups : List (LeakKey × BlockSum)) (key : LeakKey) (size : ℕ)
    → insert_entry ghosts.eq groups key (with_block (unwrap_or (lookup (ghosts.eq key) groups) no_blocks) size)
    ≡ with_leak groups key size
unfolding with_leak
leak_inserted [] key size = refl
leak_inserted (g ∷ gs) key size = go (ghosts.eq key g.0) (same_key key g.0) (key_eq key g.0) (leak_inserted gs key size)
  where
    go : (b c : Bool) → b ≡ c → insert_entry ghosts.eq gs key
        (with_block (unwrap_or (lookup (ghosts.eq key) gs) no_blocks) size) ≡ with_leak gs key size
        → cond b ((g.0, with_block (unwrap_or (cond b (Some g.1) (lookup (ghosts.eq key) gs)) no_blocks) size) ∷ gs)
        (g ∷ insert_entry ghosts.eq gs key
        (with_block (unwrap_or (cond b (Some g.1) (lookup (ghosts.eq key) gs)) no_blocks) size))
        ≡ cond c ((g.0, with_block g.1 size) ∷ gs) (g ∷ with_leak gs key size)
    go true true e rest = refl
    go true false e rest = cc
    go false true e rest = cc
    go false false e rest = ap (λ others. g ∷ others) rest

pub groups_more : (callers : ℕ) (records : List LeakRecord) (r : LeakRecord)
    → leak_groups callers (records ++ r ∷ []) ≡ with_leak (leak_groups callers records) (key_of callers r) r.size
unfolding leak_groups
groups_more callers records r = fold-append (λ groups q. with_leak groups (key_of callers q) q.size) [] records (r ∷ [])
