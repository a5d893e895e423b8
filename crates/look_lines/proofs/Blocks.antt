-- A list of kept blocks, one after another.
use Rattle.std.proofs.Common.{◌≡◌, ◌∙◌, ◌++◌, ℕ, zero, suc, ◌+◌, ◌<◌, List, [], ◌∷◌, length, Option, Some, None}
use Rattle.std.proofs.Common.{ap, append_assoc, append-nil, arith, length-append, refl, subst, sym}
use Rattle.std.proofs.lemmas.Grind.{flat_map-append}
use Rattle.std.specs.List.{flat_map}
use Rattle.std.specs.Prelude.{IfNone, IfSome}
use Rattle.std.specs.Option.{option_map}
use Rattle.guest_heap.specs.Blocks.{Blocks, IsFirstKept, IsKept}
use Rattle.call_stacks.specs.declared.block.Block.{Block}
use Rattle.look_lines.specs.Lists.{AreKept, block_line, blocks_end, ListsBlocks, most_blocks}

-- blocks are the kept ones from one address on, below another
pub IsFront : Blocks → ℕ → List Block → ℕ → Type 0
IsFront blocks from [] at = at ≡ from
IsFront blocks from (b ∷ bs) at = IsFirstKept blocks from b × IsFront blocks (b.start + 1) bs at

front-more : (blocks : Blocks) (from : ℕ) (bs : List Block) (at : ℕ) (b : Block) → IsFront blocks from bs at
    → IsFirstKept blocks at b → IsFront blocks from (bs ++ b ∷ []) (b.start + 1)
unfolding IsFront
front-more blocks from [] at b is first = (subst (λ a. IsFirstKept blocks a b) is first, refl)
front-more blocks from (c ∷ cs) at b is first = (is.0, front-more blocks (c.start + 1) cs at b is.1 first)

-- the blocks that are left
front-left : (blocks : Blocks) (from : ℕ) (bs : List Block) (at left n : ℕ) (next : Option ℕ)
    → IsFront blocks from bs at → length bs + left ≡ n → AreKept blocks at left [] next → AreKept blocks from n bs next
unfolding AreKept IsFront
front-left blocks from [] at left n next is e none =
    let same : left ≡ n = omega (arith, e) in
    subst (λ m. AreKept blocks from m [] next) same (subst (λ a. AreKept blocks a left [] next) is none)
front-left blocks from (c ∷ cs) at left zero next is e none = absurd (omega (arith, e))
front-left blocks from (c ∷ cs) at left (suc m) next is e none =
    (is.0, front-left blocks (c.start + 1) cs at left m next is.1 (omega (arith, e)) none)

lines-more : (bs : List Block) (b : Block)
    → flat_map block_line (bs ++ b ∷ []) ≡ flat_map block_line bs ++ block_line b
lines-more bs b =
    flat_map-append block_line bs (b ∷ []) ∙ ap (λ xs. flat_map block_line bs ++ xs) (append-nil (block_line b))

-- their lines are appended
pub record Fronts (blocks : Blocks) (from at n : ℕ) (begun out : List ℕ) : Type 0 where
  pub listed : List Block
  pub front : IsFront blocks from listed at
  pub long : length listed ≡ n
  pub lines : out ≡ begun ++ flat_map block_line listed

pub no-front : (blocks : Blocks) (from : ℕ) (begun : List ℕ) → Fronts blocks from from 0 begun begun
unfolding IsFront
no-front blocks from begun = record { listed = []; front = refl; long = refl; lines = sym (append-nil begun) }

pub longer-front : (blocks : Blocks) (from at n : ℕ) (begun out new : List ℕ) (b : Block)
    → Fronts blocks from at n begun out → IsFirstKept blocks at b → new ≡ out ++ block_line b
    → Fronts blocks from (b.start + 1) (n + 1) begun new
longer-front blocks from at n begun out new b is first more = record {
  listed = is.listed ++ b ∷ [];
  front = front-more blocks from is.listed at b is.front first;
  long = (let long = length-append is.listed (b ∷ []) in omega (arith, is.long, long));
  lines =
      more ∙ ap (λ xs. xs ++ block_line b) is.lines
      ∙ append_assoc begun (flat_map block_line is.listed) (block_line b)
      ∙ ap (λ xs. begun ++ xs) (sym (lines-more is.listed b));
}

pub listed-all : (blocks : Blocks) (from at n left : ℕ) (begun out new : List ℕ) (next : Option ℕ)
    → Fronts blocks from at n begun out → n + left ≡ most_blocks → AreKept blocks at left [] next
    → new ≡ out ++ blocks_end next
    → (text : List ℕ) × ListsBlocks blocks from text × (new ≡ begun ++ text)
listed-all blocks from at n left begun out new next is full none more = (
  flat_map block_line is.listed ++ blocks_end next,
  record {
    listed = is.listed;
    next = next;
    kept =
        front-left blocks from is.listed at left most_blocks next is.front
        (omega (arith, is.long, full)) none;
    lines = refl;
  },
  more ∙ ap (λ xs. xs ++ blocks_end next) is.lines
      ∙ append_assoc begun (flat_map block_line is.listed) (blocks_end next),
)

-- no more blocks are left
pub none-left : (blocks : Blocks) (at left : ℕ) → ((b : Block) → IsKept blocks b → b.start < at)
    → AreKept blocks at left [] None
unfolding AreKept
none-left blocks at left none = none

-- as many as there may be are listed
pub next-left : (blocks : Blocks) (at : ℕ) (b : Block) → IsFirstKept blocks at b
    → AreKept blocks at 0 [] (Some b.start)
unfolding AreKept
next-left blocks at b first = (refl, (b, first, refl))

-- what is left behind as many as there may be
pub rest-left : (blocks : Blocks) (at : ℕ) (found : Option Block) (next : Option ℕ)
    → next ≡ option_map (λ b. b.start) found → IfSome found (λ b. IsFirstKept blocks at b)
    → IfNone found ((b : Block) → IsKept blocks b → b.start < at) → AreKept blocks at 0 [] next
rest-left blocks at None next e some none =
    subst (λ n. AreKept blocks at 0 [] n) (sym e) (none-left blocks at 0 none)
rest-left blocks at (Some b) next e some none =
    subst (λ n. AreKept blocks at 0 [] n) (sym e) (next-left blocks at b some)
