use Rattle.std.proofs.Common.{◌≡◌, ◌+◌, ◌*◌, ◌/◌, ◌%◌, ◌^◌, ◌++◌, ◌∙◌, ap, ap₂, append-nil, append_assoc, arith, length}
use Rattle.std.proofs.Common.{subst, sym}
use Rattle.std.specs.List.{slice_range}
use Rattle.sweep_tables.specs.SidesLines.{address_at, sides_below, sides_line}
use Rattle.sweep_tables.proofs.SidesSteps.{another-line, first-address, line-digits, next-address}
use Rattle.sweep_tables.proofs.sides.push_lines.Goals as goal

pub loop-n-init : goal.loop-n-init
unfolding sides_below
loop-n-init c = record {
  addr = first-address c.args.start c.args.apart (omega arith);
  text = sym (append-nil c.args.out.now.items);
}

pub loop-n-preserved : goal.loop-n-preserved
loop-n-preserved c =
    let inv = c.loop-n.invariant in
    let n = c.loop-n.n in
    let start = c.args.start in
    let apart = c.args.apart in
    let digits = c.args.digits.now in
    let before = sides_below start apart digits n in
    let line = sides_line c.loop-n.addr (slice_range digits (n * 64) c.min-to.result) in
    record {
      addr = ap (λ a. (a + 64 * apart) % 2 ^ 32) inv.addr ∙ next-address start apart n;
      text = c.in_ok-push_line.ensures ∙ ap (λ text. text ++ line) inv.text
          ∙ append_assoc c.args.out.now.items before line ∙ ap (λ text. c.args.out.now.items ++ text)
          (ap (λ line. before ++ line) (ap₂ sides_line inv.addr
          (ap (slice_range digits (n * 64)) c.min-to.ensures ∙ line-digits digits n (omega arith)))
          ∙ sym (another-line start apart n digits));
    }

pub returns : goal.returns
returns c =
    let end : c.loop-n.n ≡ (length c.args.digits.now + 63) / 64 = omega arith in
    c.loop-n.invariant.text
    ∙ ap (λ n. c.args.out.now.items ++ sides_below c.args.start c.args.apart c.args.digits.now n) end
