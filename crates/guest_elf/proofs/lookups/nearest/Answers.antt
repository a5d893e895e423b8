use Rattle.std.proofs.Common.{◌≡◌, true, false, rules, leb, ltb, ◌-◌, get_or, subst, arith, ℕ}
use Rattle.std.proofs.lemmas.List.Sorted.{IsPartitionPoint-from_clause, IsPartitionedBy-leb, IsPartitionedBy-ltb}
use Rattle.std.specs.List.Sorted.{IsPartitionPoint}
use Rattle.guest_elf.proofs.Nearest.{nearest_at, nearest_of_none}
use Rattle.guest_elf.specs.declared.symbols.Symbol.{Symbol}
use Rattle.guest_elf.proofs.lookups.nearest.Goals as goal

-- the value past the end
abbrev no_symbol : Symbol
no_symbol = record { name = 0; value = 0; size = 0; info = 0; section = 0 }

pub returns-then-end-eq0 : goal.returns-then-end-eq0
returns-then-end-eq0 c =
    let symbols = c.args.symbols.now in
    let parted = IsPartitionedBy-leb (λ (t : Symbol). t.value) symbols c.args.addr c.requires in
    let point = IsPartitionPoint-from_clause (λ (t : Symbol). leb t.value c.args.addr) symbols _
    c.partition_point-end.ensures.partitioned parted (λ a r q k. search rules) in
    nearest_of_none symbols c.args.addr
    (subst (λ (i : ℕ). IsPartitionPoint (λ (t : Symbol). leb t.value c.args.addr ≡ true)
    (λ (t : Symbol). leb t.value c.args.addr ≡ false) symbols i) c.if-end-eq0.true point)

pub bounds-symbols-first : goal.bounds-symbols-first
bounds-symbols-first c =
    let symbols = c.args.symbols.now in
    let parted = IsPartitionedBy-leb (λ (t : Symbol). t.value) symbols c.args.addr c.requires in
    let point = IsPartitionPoint-from_clause (λ (t : Symbol). leb t.value c.args.addr) symbols _
    c.partition_point-end.ensures.partitioned parted (λ a r q k. search rules) in
    let top = (get_or symbols (c.partition_point-end.result - 1) no_symbol).value in
    let split = IsPartitionedBy-ltb (λ (t : Symbol). t.value) symbols top c.requires in
    let start = IsPartitionPoint-from_clause (λ (t : Symbol). ltb t.value top) symbols _
    c.partition_point-first.ensures.partitioned split (λ a r q k. search rules) in
    (nearest_at symbols c.args.addr c.partition_point-end.result c.partition_point-first.result no_symbol c.requires
    (omega (arith, c.if-end-eq0.false)) (omega arith) (omega arith) point start).0

pub returns : goal.returns
returns c =
    let symbols = c.args.symbols.now in
    let parted = IsPartitionedBy-leb (λ (t : Symbol). t.value) symbols c.args.addr c.requires in
    let point = IsPartitionPoint-from_clause (λ (t : Symbol). leb t.value c.args.addr) symbols _
    c.partition_point-end.ensures.partitioned parted (λ a r q k. search rules) in
    let top = (get_or symbols (c.partition_point-end.result - 1) no_symbol).value in
    let split = IsPartitionedBy-ltb (λ (t : Symbol). t.value) symbols top c.requires in
    let start = IsPartitionPoint-from_clause (λ (t : Symbol). ltb t.value top) symbols _
    c.partition_point-first.ensures.partitioned split (λ a r q k. search rules) in
    (nearest_at symbols c.args.addr c.partition_point-end.result c.partition_point-first.result no_symbol c.requires
    (omega (arith, c.if-end-eq0.false)) (omega arith) (omega arith) point start).1
