-- Blocks of no shown kind add nothing to an outline.
use Rattle.std.proofs.Common.{◌≡◌, ℕ, Bool, true, false, not, cond, ◌||◌, List, [], ◌∷◌, ◌++◌, filter, fold}
use Rattle.std.proofs.Common.{map, refl, ap, sym, ◌∙◌}
use Rattle.std.specs.List.{flat_map}
use Rattle.std.proofs.lemmas.Bool.{false≢true}
use Rattle.guest_elf.specs.declared.image.Image.{Image}
use Rattle.leak_search.specs.declared.record.LeakRecord.{LeakRecord}
use Rattle.suppressions.specs.Rules.{Rule}
use Rattle.replay_report.specs.Findings.{has_leak}
use Rattle.replay_report.specs.Leaks.{is_hidden, is_shown, key_of, leak_groups, same_key, shown_records, with_block}
use Rattle.replay_report.specs.Leaks.{with_leak}
use Rattle.replay_report.specs.Outlines.{leak_outline, leak_outlines}
use Rattle.replay_report.specs.declared.leaks.BlockSum.{BlockSum}
use Rattle.replay_report.specs.declared.leaks.LeakKey.{LeakKey}
use Rattle.replay_report.specs.declared.options.Options.{Options}

-- the lines of groups
abbrev lines : Image → List Bool → List (LeakKey × BlockSum) → List ℕ
lines image show groups = flat_map (leak_outline image show) (map (λ g. g.0) groups)

-- a group that is there before stays; one that isn't shown has no line
hidden-adds : (image : Image) (show : List Bool) (groups : List (LeakKey × BlockSum)) (key : LeakKey) (size : ℕ)
    → is_shown show key.kind ≡ false → lines image show (with_leak groups key size) ≡ lines image show groups
unfolding leak_outline with_leak
hidden-adds image show [] key size h = rw h refl
hidden-adds image show (g ∷ gs) key size h = go (same_key key g.0) (hidden-adds image show gs key size h)
  where
    go : (b : Bool) → lines image show (with_leak gs key size) ≡ lines image show gs
        → lines image show (cond b ((g.0, with_block g.1 size) ∷ gs) (g ∷ with_leak gs key size))
        ≡ lines image show (g ∷ gs)
    go true rest = refl
    go false rest = ap (λ (more : List ℕ). leak_outline image show g.0 ++ more) rest

neither : (a b : Bool) → (a || b) ≡ false → (a ≡ false) × (b ≡ false)
neither true b h = absurd (false≢true (sym h))
neither false b h = (refl, h)

records-add : (image : Image) (show : List Bool) (callers : ℕ) (test : LeakRecord → Bool)
    (groups : List (LeakKey × BlockSum)) (records : List LeakRecord) → has_leak show records ≡ false
    → lines image show (fold (λ gs r. with_leak gs (key_of callers r) r.size) groups (filter test records))
    ≡ lines image show groups
records-add image show callers test groups [] h = refl
records-add image show callers test groups (r ∷ rs) h =
    let none = neither (is_shown show r.kind) (has_leak show rs) h in
    go (test r) none.0 (λ gs. records-add image show callers test gs rs none.1)
  where
    go : (b : Bool) → is_shown show r.kind ≡ false
        → ((gs : List (LeakKey × BlockSum))
        → lines image show (fold (λ gs r. with_leak gs (key_of callers r) r.size) gs (filter test rs))
        ≡ lines image show gs)
        → lines image show (fold (λ gs r. with_leak gs (key_of callers r) r.size) groups
        (cond b (r ∷ filter test rs) (filter test rs)))
        ≡ lines image show groups
    go true hidden rest =
        rest (with_leak groups (key_of callers r) r.size)
        ∙ hidden-adds image show groups (key_of callers r) r.size hidden
    go false hidden rest = rest groups

pub no-leak-no-line : (image : Image) (rules : List Rule) (options : Options) (records : List LeakRecord)
    → has_leak options.show records ≡ false → leak_outlines image rules options records ≡ []
unfolding leak_groups leak_outlines shown_records
no-leak-no-line image rules options records h =
    records-add image options.show options.callers (λ r. not (is_hidden rules image r)) [] records h
