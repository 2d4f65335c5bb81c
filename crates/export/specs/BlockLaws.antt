-- Blocks that are cut into eight parts, and blocks that are laid part by part.
--     domains_cut, contexts_cut, rows_cut   what is read of each part is what is read of the block there
--     map_laid, grid_laid, state_laid       eight parts, each laid into what the ones before it left, are all of a block
-- Assumes nothing.
use Rattle.std.specs.Prelude.{ℕ, ◌+◌, ◌*◌, ◌<◌, ◌≡◌, not, List, [], eqb, get_or, set, replicate, take, drop}
use Rattle.std.specs.Simd.{first_chunks}
use Rattle.std.proofs.Common.{ap, ◌∙◌, arith}
use Rattle.std.proofs.lemmas.List.{get_or-drop, get_or-take}
use Rattle.std.proofs.lemmas.List.Edits.{sets}
use Rattle.model.specs.Map.{nth, Grid}
use Rattle.model.specs.States.{missing}
use Rattle.model.specs.declared.map.Map.{Map}
use Rattle.model.specs.declared.state.State.{State}
use Rattle.export.specs.Words.{eight}
use Rattle.export.specs.WordsLaws.{eight_same, chunk}
use Rattle.export.specs.MapWords.{domain_from, domain_at, domain_words, head_words, map_words, row_at, row_bytes, grid_bytes}
use Rattle.export.specs.StateWords.{context_from, context_at, context_words, packed}

-- a word of the parts of n words that follow a head
part :
    (head n size : ℕ) (w : List ℕ) (i j at : ℕ) → i < 8 → j < n → n * i + j < size → head + n * i + j ≡ at
    → get_or (get_or (first_chunks n 8 (take size (drop head w))) i []) j 0 ≡ get_or w at 0
part head n size w i j at a b k e =
    let f : head + (n * i + j) ≡ at = omega arith in
    chunk n 8 (take size (drop head w)) i j a b
    ∙ get_or-take size (drop head w) (n * i + j) 0 k
    ∙ get_or-drop head w (n * i + j) 0
    ∙ rw f

domain_cut :
    (w : List ℕ) (i : ℕ) → i < 8 → domain_from (get_or (first_chunks 5 8 (take 40 (drop 4 w))) i []) 0 ≡ domain_at w i
domain_cut w i l =
    let at : (j n : ℕ) → j < 5 → 4 + 5 * i + j ≡ n → get_or (get_or (first_chunks 5 8 (take 40 (drop 4 w))) i []) j 0 ≡ get_or w n 0
    = λ j n k e. part 4 5 40 w i j n l k (omega arith) e in
    rw (
      at 0 (4 + 5 * i) (omega arith) (omega arith),
      at 1 (4 + 5 * i + 1) (omega arith) (omega arith),
      at 2 (4 + 5 * i + 2) (omega arith) (omega arith),
      at 3 (4 + 5 * i + 2 + 1) (omega arith) (omega arith),
      at 4 (4 + 5 * i + 4) (omega arith) (omega arith),
    )

context_cut :
    (w : List ℕ) (i : ℕ) → i < 8 → context_from (get_or (first_chunks 15 8 (take 120 (drop 1 w))) i []) 0 ≡ context_at w i
context_cut w i l =
    let at : (j : ℕ) → j < 15 → get_or (get_or (first_chunks 15 8 (take 120 (drop 1 w))) i []) j 0 ≡ get_or w (1 + 15 * i + j) 0
    = λ j k. part 1 15 120 w i j (1 + 15 * i + j) l k (omega arith) (omega arith) in
    let first : 1 + 15 * i + 0 ≡ 1 + 15 * i = omega arith in
    rw (
      at 0 (omega arith),
      at 1 (omega arith),
      at 2 (omega arith),
      at 3 (omega arith),
      at 4 (omega arith),
      at 5 (omega arith),
      at 6 (omega arith),
      at 7 (omega arith),
      at 8 (omega arith),
      at 9 (omega arith),
      at 10 (omega arith),
      at 11 (omega arith),
      at 12 (omega arith),
      at 13 (omega arith),
      at 14 (omega arith),
      first,
    )

pub domains_cut : (w : List ℕ) → eight (λ i. domain_from (get_or (first_chunks 5 8 (take 40 (drop 4 w))) i []) 0) ≡ eight (domain_at w)
domains_cut w = eight_same _ _ (domain_cut w)

pub contexts_cut :
    (w : List ℕ) → eight (λ i. context_from (get_or (first_chunks 15 8 (take 120 (drop 1 w))) i []) 0) ≡ eight (context_at w)
contexts_cut w = eight_same _ _ (context_cut w)

pub rows_cut : (b : List ℕ) → eight (λ f. row_at (get_or (first_chunks 8 8 b) f []) 0) ≡ eight (row_at b)
rows_cut b = eight_same _ _ (λ f l. eight_same _ _ (λ t k. ap (λ n. not (eqb n 0)) (chunk 8 8 b f t l k)))

-- ---- laid part by part

-- eight parts, one after the other
abbrev laid : (ℕ → List ℕ → List ℕ) → List ℕ → List ℕ
laid f o = f 7 (f 6 (f 5 (f 4 (f 3 (f 2 (f 1 (f 0 o)))))))

-- a domain, a row and a context, each at its place
abbrev lay_domain : Map → ℕ → List ℕ → List ℕ
lay_domain m i o = sets o (4 + 5 * i) (domain_words (nth m i))

abbrev lay_row : Grid → ℕ → List ℕ → List ℕ
lay_row g f o = sets o (8 * f) (row_bytes (get_or g f []))

abbrev lay_context : State → ℕ → List ℕ → List ℕ
lay_context s i o = sets o (1 + 15 * i) (context_words (get_or s.contexts i missing))

-- the last part first, so that a search goes back from the block
module _ (a b c d e g h i : List ℕ) where
  abbrev Parts : (ℕ → List ℕ → List ℕ) → List ℕ → List ℕ → Type 0
  Parts f o block =
      i ≡ f 7 h → h ≡ f 6 g → g ≡ f 5 e → e ≡ f 4 d → d ≡ f 3 c → c ≡ f 2 b → b ≡ f 1 a → a ≡ f 0 o → i ≡ block

  all : (f : ℕ → List ℕ → List ℕ) (o : List ℕ) → Parts f o (laid f o)
  all f o I H G E D C B A =
      let b = B ∙ ap (f 1) A in
      let c = C ∙ ap (f 2) b in
      let d = D ∙ ap (f 3) c in
      let e = E ∙ ap (f 4) d in
      let g = G ∙ ap (f 5) e in
      let h = H ∙ ap (f 6) g in
      I ∙ ap (f 7) h

  pub map_laid :
      (m : Map) {head o : List ℕ} → head ≡ head_words m → o ≡ sets (replicate 44 0) 0 head → Parts (lay_domain m) o (map_words m)
  unfolding map_words
  map_laid m {o = o} K O I H G E D C B A =
      all (lay_domain m) o I H G E D C B A ∙ ap (laid (lay_domain m)) (O ∙ ap (sets (replicate 44 0) 0) K)

  pub grid_laid : (grid : Grid) → Parts (lay_row grid) (replicate 64 0) (grid_bytes grid)
  unfolding grid_bytes
  grid_laid grid = all (lay_row grid) (replicate 64 0)

  pub state_laid : (s : State) → Parts (lay_context s) (set (replicate 121 0) 0 s.active) (packed s)
  unfolding packed context_words
  state_laid s = all (lay_context s) (set (replicate 121 0) 0 s.active)
