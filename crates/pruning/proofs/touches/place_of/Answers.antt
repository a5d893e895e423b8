use Rattle.std.proofs.Common.{◌≡◌, ℕ, ◌<◌, ◌≤◌, arith, rules, ltb, true, false}
use Rattle.std.proofs.lemmas.Bool.Decides.{nat_tests}
use Rattle.std.proofs.lemmas.List.Sorted.{IsPartitionPoint-from_clause, IsPartitionedBy-ltb}
use Rattle.pruning.proofs.touches.place_of.Goals as goal

passes : (m n : ℕ) → ltb m n ≡ true → m < n
passes m n h = grind (arith, nat_tests)

fails : (m n : ℕ) → ltb m n ≡ false → n ≤ m
fails m n h = grind (arith, nat_tests)

pub returns-clause-before : goal.returns-clause-before
returns-clause-before c k d less =
    let parted = IsPartitionedBy-ltb (λ (key : ℕ). key) c.args.keys.now c.args.key c.requires in
    let parts = IsPartitionPoint-from_clause (λ (key : ℕ). ltb key c.args.key) c.args.keys.now _
    c.partition_point.ensures.partitioned parted (λ a r q k. search rules) in
    passes _ c.args.key (parts.0 k d (omega arith) less)

pub returns-clause-next : goal.returns-clause-next
returns-clause-next c k d above within =
    let parted = IsPartitionedBy-ltb (λ (key : ℕ). key) c.args.keys.now c.args.key c.requires in
    let parts = IsPartitionPoint-from_clause (λ (key : ℕ). ltb key c.args.key) c.args.keys.now _
    c.partition_point.ensures.partitioned parted (λ a r q k. search rules) in
    fails _ c.args.key (parts.1 k d above within)
