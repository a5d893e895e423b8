-- From the marks to the leak kinds of their definition.
use Rattle.std.proofs.Common.{◌≡◌, ℕ, ◌<◌, ◌≢◌, List, [], ◌∷◌, Bool, false, subst, sym, ◌∙◌, inl, inr, get_or, arith}
use Rattle.std.proofs.lemmas.Bool.{cases_eq, cases_Bool, false≢true}
use Rattle.leak_graph.specs.Paths.{Follows, HasPath}
use Rattle.leak_graph.specs.Leaks.{Links, IsLost, LostEdge, HasKind}
use Rattle.leak_graph.specs.Marks.{IsMarked, Reaches, HeadsOf, DefiniteOf}
use Rattle.leak_graph.specs.declared.leak_kind.LeakKind.TheVariants.{Definite, Indirect, Possible, Reachable}
use Rattle.leak_graph.proofs.Paths.{path_join, path_map, reached_on}
use Rattle.leak_graph.proofs.Reaching.{reaches_all}

-- what leads to a lost block is lost
lost_before : (links : Links) → ((a b : ℕ) → links.edge a b → a < links.count) → (a : ℕ) (nodes : List ℕ) (b : ℕ)
    → Follows links.edge a nodes b → IsLost links b → IsLost links a
lost_before links within a [] b e lost = subst (λ (x : ℕ). IsLost links x) (sym e) lost
lost_before links within a (c ∷ nodes) b f lost =
    (within a c f.0, λ found. lost.1 (reached_on links.root links.edge a b found (c ∷ nodes, f)))

-- so a path to a lost block goes through lost blocks
lost_follows : (links : Links) → ((a b : ℕ) → links.edge a b → a < links.count) → (a : ℕ) (nodes : List ℕ) (b : ℕ)
    → Follows links.edge a nodes b → IsLost links b → Follows (LostEdge links) a nodes b
lost_follows links within a [] b e lost = e
lost_follows links within a (c ∷ nodes) b f lost = (
  (lost_before links within a (c ∷ nodes) b f lost, lost_before links within c nodes b f.1 lost, f.0),
  lost_follows links within c nodes b f.1 lost,
)

lost_path : (links : Links) → ((a b : ℕ) → links.edge a b → a < links.count) → (a b : ℕ)
    → HasPath links.edge a b → IsLost links b → HasPath (LostEdge links) a b
lost_path links within a b p lost = (p.0, lost_follows links within a p.0 b p.1 lost)

any_path : (links : Links) (a b : ℕ) → HasPath (LostEdge links) a b → HasPath links.edge a b
any_path links a b p = path_map (LostEdge links) links.edge (λ x y e. e.2) a b p

pub kind_reachable : (links : Links) (reachable : List Bool) (b : ℕ)
    → Reaches links.start_root links.start_edge reachable
    → IsMarked reachable b → HasKind links b Reachable
kind_reachable links reachable b r m = r.sound b m

pub kind_possible : (links : Links) (reachable found : List Bool) (b : ℕ)
    → Reaches links.start_root links.start_edge reachable
    → Reaches links.root links.edge found → get_or reachable b false ≡ false → IsMarked found b
    → HasKind links b Possible
kind_possible links reachable found b r f clear m = (
  f.sound b m,
  λ held_so. false≢true (sym clear
      ∙ reaches_all links.start_root links.start_edge reachable r b held_so),
)

lost_where : (links : Links) (found : List Bool) (b : ℕ) → Reaches links.root links.edge found → b < links.count
    → get_or found b false ≡ false → IsLost links b
lost_where links found b f less clear =
    (less, λ held_so. false≢true (sym clear ∙ reaches_all links.root links.edge found f b held_so))

pub kind_definite : (links : Links) (found heads definite : List Bool) (b : ℕ)
    → ((a b : ℕ) → links.edge a b → a < links.count)
    → Reaches links.root links.edge found → HeadsOf links.edge links.count found heads
    → DefiniteOf links.edge heads definite
    → b < links.count → get_or found b false ≡ false → IsMarked definite b → HasKind links b Definite
kind_definite links found heads definite b within f of d less clear m = (
  lost_where links found b f less clear,
  λ c held.
      elim (of.owned c held.0.0) [
        | inl held_so ↦ held.0.1 (f.sound c held_so)
        | inr w ↦ elim (cases_eq w.0 b) [
          | inr ne ↦ d.alone b w.0 m w.1 ne (path_join links.edge w.0 c b w.3 (any_path links c b held.2))
          | inl e ↦ elim held.3 [
            | inl noback ↦ noback (lost_path links within b c (subst (λ (x : ℕ). HasPath links.edge x c) e w.3) held.0)
            | inr lower ↦ (let le = w.2 in absurd (omega arith))
          ]
        ]
      ],
)

pub kind_indirect : (links : Links) (found heads definite : List Bool) (b : ℕ)
    → ((a b : ℕ) → links.edge a b → a < links.count)
    → Reaches links.root links.edge found → HeadsOf links.edge links.count found heads
    → DefiniteOf links.edge heads definite
    → b < links.count → get_or found b false ≡ false → get_or definite b false ≡ false → HasKind links b Indirect
kind_indirect links found heads definite b within f of d less clear undecided =
    let lost = lost_where links found b f less clear in
    elim (cases_Bool (get_or heads b false)) as (λ _. HasKind links b Indirect) [
      | inl head ↦ elim (d.others b head) as (λ _. HasKind links b Indirect) [
        | inl held_so ↦ absurd (false≢true (sym undecided ∙ held_so))
        | inr w ↦ (
          lost,
          (
            w.0,
            (
              lost_before links within w.0 w.3.0 b w.3.1 lost,
              (λ e. (let more = w.2 in omega arith)),
              lost_path links within w.0 b w.3 lost,
              inl (λ back. of.apart b w.0 head w.1 w.2 (any_path links b w.0 back)),
            ),
          ),
        )
      ]
      | inr other ↦ elim (of.owned b less) as (λ _. HasKind links b Indirect) [
        | inl held_so ↦ absurd (false≢true (sym clear ∙ held_so))
        | inr w ↦
            let ne : w.0 ≢ b = λ e. false≢true (sym other ∙ subst (λ (x : ℕ). IsMarked heads x) e w.1) in (
              lost,
              (
                w.0,
                (
                  lost_before links within w.0 w.3.0 b w.3.1 lost,
                  ne,
                  lost_path links within w.0 b w.3 lost,
                  inr (let le = w.2 in omega arith),
                ),
              ),
            )
      ]
    ]
