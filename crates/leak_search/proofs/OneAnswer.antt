-- The records of a scene are one list.
use Rattle.std.proofs.Common.{◌≡◌, ℕ, suc, inl, List, [], ◌∷◌, Some, length, true, false, arith, refl, sym, ◌∙◌, ap}
use Rattle.std.proofs.Common.{slice_get}
use Rattle.std.proofs.lemmas.Option.{same_Some}
use Rattle.call_stacks.specs.declared.block.Block.{Block}
use Rattle.leak_graph.specs.declared.leak_kind.LeakKind.{LeakKind}
use Rattle.leak_graph.specs.declared.leak_kind.LeakKind.TheVariants.{Definite, Indirect, Possible, Reachable}
use Rattle.leak_graph.specs.Leaks.{Links, IsReachable, IsFound, HasKind}
use Rattle.leak_graph.proofs.Paths.{reached_map}
use Rattle.leak_search.specs.declared.record.LeakRecord.{LeakRecord}
use Rattle.leak_search.specs.Pointing.{PointsTo}
use Rattle.leak_search.specs.Search.{Scene, RootPointsTo, BlockPointsTo, links_in, IsRecordOf, AreRecordsIn}
use Rattle.leak_search.specs.Records.{scene_of, AreRecordsOf}
use Rattle.leak_search.specs.Laws.{RecordsAreOne}

-- a block has one kind, where what is reachable is found
one_kind : (links : Links) (b : ℕ) → (IsReachable links b → IsFound links b) → (one two : LeakKind)
    → HasKind links b one → HasKind links b two → one ≡ two
one_kind links b found Reachable Reachable h k = refl
one_kind links b found Reachable Possible h k = absurd (k.1 h)
one_kind links b found Reachable Indirect h k = absurd (k.0.1 (found h))
one_kind links b found Reachable Definite h k = absurd (k.0.1 (found h))
one_kind links b found Possible Reachable h k = absurd (h.1 k)
one_kind links b found Possible Possible h k = refl
one_kind links b found Possible Indirect h k = absurd (k.0.1 h.0)
one_kind links b found Possible Definite h k = absurd (k.0.1 h.0)
one_kind links b found Indirect Reachable h k = absurd (h.0.1 (found k))
one_kind links b found Indirect Possible h k = absurd (h.0.1 k.0)
one_kind links b found Indirect Indirect h k = refl
one_kind links b found Indirect Definite h k = absurd (k.1 h.1.0 h.1.1)
one_kind links b found Definite Reachable h k = absurd (h.0.1 (found k))
one_kind links b found Definite Possible h k = absurd (h.0.1 k.0)
one_kind links b found Definite Indirect h k = absurd (h.1 k.1.0 k.1.1)
one_kind links b found Definite Definite h k = refl

-- a start-pointer is a pointer
any_sort : (blocks : List Block) (value b : ℕ) → PointsTo true blocks value b → PointsTo false blocks value b
any_sort blocks value b p = (p.0, p.1, inl p.2)

reachable_found : (scene : Scene) (b : ℕ) → IsReachable (links_in scene) b → IsFound (links_in scene) b
unfolding links_in
reachable_found scene b r =
    reached_map (RootPointsTo scene true) (RootPointsTo scene false) (BlockPointsTo scene true)
    (BlockPointsTo scene false)
    (λ c h. (h.0, h.1, any_sort scene.blocks h.0 c h.2)) (λ a c h. (h.0, h.1, any_sort scene.blocks h.0 c h.2)) b r

-- two records of a block are equal
record_one : (scene : Scene) (k : ℕ) (x y : LeakRecord) → IsRecordOf scene k x → IsRecordOf scene k y → x ≡ y
record_one scene k x y p q =
    let block : p.block ≡ q.block = same_Some p.block q.block (sym p.at ∙ q.at) in
    let start : x.start ≡ y.start = p.start ∙ ap (λ b. b.start) block ∙ sym q.start in
    let size : x.size ≡ y.size = p.size ∙ ap (λ b. b.size) block ∙ sym q.size in
    let trace : x.trace ≡ y.trace = p.trace ∙ ap (λ b. b.trace) block ∙ sym q.trace in
    let kind : x.kind ≡ y.kind = one_kind (links_in scene) k (reachable_found scene k) x.kind y.kind p.kind q.kind in
    λ i. record { start = start i; size = size i; kind = kind i; trace = trace i }

-- lists of one length that have the same at each place are equal
same_lists : {X : Type 0} (xs ys : List X) → length xs ≡ length ys
    → ((k : ℕ) (x y : X) → slice_get xs k ≡ Some x → slice_get ys k ≡ Some y → x ≡ y) → xs ≡ ys
same_lists [] [] len each = refl
same_lists [] (y ∷ ys) len each = absurd (omega arith)
same_lists (x ∷ xs) [] len each = absurd (omega arith)
same_lists (x ∷ xs) (y ∷ ys) len each =
    let head : x ≡ y = each 0 x y refl refl in
    let tail : xs ≡ ys = same_lists xs ys (omega arith) (λ k a b p q. each (suc k) a b p q) in
    λ i. head i ∷ tail i

scene_one : (scene : Scene) (xs ys : List LeakRecord) → AreRecordsIn scene xs → AreRecordsIn scene ys → xs ≡ ys
scene_one scene xs ys p q =
    same_lists xs ys (p.len ∙ sym q.len) (λ k x y at also. record_one scene k x y (p.each k x at) (q.each k y also))

pub records_are_one : RecordsAreOne
unfolding AreRecordsOf
records_are_one s xs ys p q = scene_one (scene_of s) xs ys p q
