-- The answer of the grammar on a whole text: a tree of its tokens, or a token that is refused whatever stands behind it, while the tokens before it begin
-- an accepted list.
use Rattle.std.specs.Prelude.{ℕ, suc, List, [], ◌∷◌, ◌++◌, Bool, true, false, ◌≡◌, refl, length}
use Rattle.std.proofs.Common.{sym, ap, ◌∙◌, subst, arith}
use Rattle.node.specs.Result.{Result, Done, Refused, ◌>>=◌}
use Rattle.node.proofs.ResultLaws.{bind_refused, bind_to}
use Rattle.language.specs.Tokens.{End, Token, is_of}
use Rattle.language.specs.Tree.{Subsection, Spec}
use Rattle.language.specs.Grammar.{Tokens, Read, front, rest, expect, expect_of}
use Rattle.language.specs.Sections.{info_of, global_of, subsections_of, spec_of}
use Rattle.language.proofs.Laws.Basics.Lists.{All, all_left}
use Rattle.language.proofs.Laws.Basics.Tests.{pick, leave}
use Rattle.language.proofs.Laws.Basics.Results.{Answers}
use Rattle.language.proofs.Laws.Grammar.TreeTokens.{InSpec}
use Rattle.language.proofs.Laws.Grammar.Lookahead.{Alike, alike-front, alike_refl, Inner, alike, opened}
use Rattle.language.proofs.Laws.Grammar.ReaderLaws.{Accepts, Stops, Reads, some_taken, done}
use Rattle.language.proofs.Laws.Grammar.ReadersInRow.{bind}
use Rattle.language.proofs.Laws.Grammar.TokenReads.{sign, plain, Is, expect-reads}
use Rattle.language.proofs.Laws.Grammar.SectionReads.{info_of-reads, global_of-reads}
use Rattle.language.proofs.Laws.Grammar.MainReads.{subsections_of-reads}

-- a text up to its end
abbrev with_main : Spec → List Subsection → Spec
with_main s m = record { semantics = s.semantics; strict = s.strict; target = s.target; target_word = s.target_word; parameters = s.parameters; definitions = s.definitions; main = m }

abbrev body_of : Tokens → Read Spec
body_of ts = do
  (s, ts) ← info_of ts
  (s, ts) ← global_of s ts
  (w, ts) ← expect "MAIN" ts
  (w, ts) ← expect "{" ts
  (m, ts) ← subsections_of 9 [] ts
  Done (with_main s m, ts)

-- the text's end
abbrev end_of : Spec × Tokens → Result Spec
end_of (x, us) = expect_of End us >>= λ (t, vs). Done x

through : {A B C : Type 0} (r : Result A) (K : A → Result B) (K' : A → Result C) (g : B → Result C) → ((x : A) → K x >>= g ≡ K' x) → (r >>= K) >>= g ≡ r >>= K'
unfolding ◌>>=◌
through (Done x) K K' g h = h x
through (Refused q p) K K' g h = refl

spec_body : (ts : Tokens) → spec_of ts ≡ body_of ts >>= end_of
spec_body ts =
    sym (through (info_of ts) _ _ end_of λ (s, r₁).
    through (global_of s r₁) _ _ end_of λ (t, r₂).
    through (expect "MAIN" r₂) _ _ end_of λ (_, r₃).
    through (expect "{" r₃) _ _ end_of λ (_, r₄).
    through (subsections_of 9 [] r₄) _ _ end_of λ (m, r₅). bind_to (Done (with_main t m, r₅)) (with_main t m, r₅) end_of refl)

body_of-reads : (P : Token → Type 0) (ts : Tokens) → Reads Spec P (InSpec P) (Is (sign "INFO")) (Is (plain End)) 0 1 ts (body_of ts) (λ k us. body_of us)
body_of-reads P ts =
    bind (info_of ts) _ _ (info_of-reads P 0 ts) λ s r₁ l₁.
    bind (global_of s r₁) _ _ (global_of-reads P s 0 r₁) λ t r₂ l₂. some_taken
    (bind (expect "MAIN" r₂) _ _ (expect-reads 0 r₂ "MAIN") λ _ r₃ l₃. some_taken
    (bind (expect "{" r₃) _ _ (expect-reads 0 r₃ "{") λ _ r₄ l₄.
    bind (subsections_of 9 [] r₄) _ _ (subsections_of-reads P 9 [] (omega arith) 0 r₄) λ m r₅ l₅.
    done (with_main t m) (λ vm _ _ vt vs. let v = vt vs in record { target_word = v.target_word; parameters = v.parameters; definitions = v.definitions; main = vm })))

-- a body, then the end
body_accepted : (ts : Tokens) (x : Spec) → body_of ts ≡ Done (x, plain End ∷ []) → spec_of ts ≡ Done x
body_accepted ts x e = spec_body ts ∙ bind_to (body_of ts) (x, plain End ∷ []) end_of e ∙ bind_to (expect_of End (plain End ∷ [])) (plain End, []) _ refl

-- the tokens before a refused one, which is at the front of `left`: whatever stands behind it, and tokens with which a text is accepted in its place
pub record Refuses (ts : Tokens) (p : ℕ) : Type 0 where
  pub before : Tokens
  pub left : Tokens
  pub whole : ts ≡ before ++ left
  pub inner : All Inner before
  pub place : p ≡ (front left).at
  pub always : (us : Tokens) → Alike left us → spec_of (before ++ us) ≡ Refused 4 p
  pub ending : Tokens
  pub tree : Spec
  pub begins : spec_of (before ++ ending) ≡ Done tree

abbrev pub Decides : (Token → Type 0) → Tokens → Result Spec → Type 0
Decides P ts r = Answers (λ number p. (number ≡ 4) × Refuses ts p) (InSpec P) r

body_stops : (ts : Tokens) (p : ℕ) → Stops Spec (Is (sign "INFO")) (Is (plain End)) 0 1 ts p (λ k us. body_of us) → Refuses ts p
body_stops ts p s =
    let c = s.completes in
    let us = s.taken in
    let vs = us ++ (c.ending ++ (plain End ∷ [])) in
    record {
      before = us;
      left = s.left;
      whole = s.whole;
      inner = s.inner;
      place = s.place;
      always = λ ws al. let xs = us ++ ws in spec_body xs ∙ bind_refused (body_of xs) 4 p end_of (s.again (suc (length xs)) ws al (omega arith));
      ending = c.ending ++ (plain End ∷ []);
      tree = c.value;
      begins = body_accepted vs c.value (c.accepted (suc (length vs)) (plain End ∷ []) refl (omega arith));
    }

-- a body that another token than the end follows
end_stops : (P : Token → Type 0) (ts : Tokens) (x : Spec) (left : Tokens) → ((us : Tokens) → Alike left us → end_of (x, us) ≡ Refused 4 (front left).at)
    → Accepts Spec P (InSpec P) (Is (sign "INFO")) (Is (plain End)) 0 1 ts x left (λ k us. body_of us) → Refuses ts (front left).at
end_stops P ts x left f s =
    let us = s.taken in
    let vs = us ++ (plain End ∷ []) in
    record {
      before = us;
      left = left;
      whole = s.whole;
      inner = s.inner;
      place = refl;
      always = λ ws al. let xs = us ++ ws in spec_body xs ∙ bind_to (body_of xs) (x, ws) end_of (s.again (suc (length xs)) ws (alike al) (omega arith)) ∙ f ws al;
      ending = plain End ∷ [];
      tree = x;
      begins = body_accepted vs x (s.again (suc (length vs)) (plain End ∷ []) (opened refl) (omega arith));
    }

pub spec_of_decides : (P : Token → Type 0) (ts : Tokens) → All P ts → Decides P ts (spec_of ts)
spec_of_decides P ts h = go (body_of ts) refl (body_of-reads P ts)
  where
    go : (a : Read Spec) → body_of ts ≡ a → Reads Spec P (InSpec P) (Is (sign "INFO")) (Is (plain End)) 0 1 ts a (λ k us. body_of us) → Decides P ts (spec_of ts)
    go (Refused q p) e r = subst (Decides P ts) (sym (spec_body ts ∙ bind_refused (body_of ts) q p end_of e)) (record { says = (r.says.0, body_stops ts p r.says.1) })
    go (Done (x, left)) e r = subst (Decides P ts) (sym (spec_body ts ∙ bind_to (body_of ts) (x, left) end_of e)) (end (is_of End (front left)) refl)
      where
        end : (c : Bool) → is_of End (front left) ≡ c → Decides P ts (end_of (x, left))
        end true z =
            subst (Decides P ts) (sym (bind_to (expect_of End left) (front left, rest left) _ (pick (is_of End (front left)) _ _ z)))
            (record { says = let s = r.says in s.value (all_left P s.taken left (subst (All P) s.whole h)) })
        end false z =
            let stopped : (us : Tokens) → Alike left us → end_of (x, us) ≡ Refused 4 (front left).at =
            λ us al. bind_refused (expect_of End us) 4 (front left).at _ (leave (is_of End (front us)) _ _ (ap (is_of End) (alike-front left us al) ∙ z) ∙ ap (λ (t : Token). Refused 4 t.at)
            (alike-front left us al)) in
            subst (Decides P ts) (sym (stopped left (alike_refl left))) (record { says = (refl, end_stops P ts x left stopped r.says) })
