-- How an operand begins with an operator: its operand, its brackets, or the names that it binds are read next.
use Rattle.std.specs.Prelude.{ℕ, suc, ◌≤◌, ◌<◌, Bool, not, ◌&&◌, refl, eqb, leb}
use Prim.Native.String.{String}
use native.Mathlib.Omega.{arith}
use mathlib.Core.List.{List, [], ◌∷◌}
use Rattle.std.proofs.Math.Bool.{true, false}
use Rattle.std.proofs.lemmas.Bool.{false≢true, not-true}
use Rattle.std.proofs.Math.Option.{some}
use Rattle.std.proofs.Math.Path.{◌≡◌, ap}
use Rattle.std.proofs.Common.{sym, ◌∙◌}
use Rattle.std.proofs.Math.ListN.{length}
use Rattle.node.specs.Result.{Result, Done, ◌>>=◌}
use Rattle.node.proofs.ResultLaws.{not_done, bind_again, bind_at, bind_where}
use Rattle.language.specs.Tokens.{Name, Token, is_of}
use Rattle.language.specs.Operators.{FinallyIn, GloballyIn, Window, Big, Role, Plain, Counted, Windowed, Folding, PrefixRow, prefixes, loosest, bound_level}
use Rattle.language.specs.Tree.{Expr, Prefixed, Nexts, InWindow, Between}
use Rattle.language.specs.Grammar.{Tokens, Read, front, rest, stop, next, named, expect, expect_of, prefix_of, closed_by, Binder, sign_of, membership_of, bounds_of, binders_of, over, role_of}
use Rattle.language.proofs.Laws.Basics.Tests.{pick, leave, and_left, some_none}
use Rattle.language.proofs.Laws.Grammar.ExprReads.{prefix_none}
use Rattle.operators.specs.Readers.{reads, climbs, prefix_row, level_at, level_in, role_at, role_in, sole_of, window_of, big_of, folds}
use Rattle.expressions.specs.ReaderLaws.{rest-fits}
use Rattle.expressions.specs.BinderLaws.{binders_fuel, folds-step}
use Rattle.expressions.specs.Classes.{Sole, Count, Low, Bound}
use Rattle.expressions.specs.Frames.{frame, resume, after_binder}
use Rattle.expressions.specs.StartLaws.{reads_role}

-- does the operator take one operand and nothing else, where a `[` follows or not?
abbrev pub takes_one : Role → Bool → Bool
takes_one (Plain p) bracket = true
takes_one Counted bracket = not bracket
takes_one (Windowed o) bracket = not bracket
takes_one (Folding o) bracket = false

module _ (max f : ℕ) (t : Token) (level : ℕ) (ts : Tokens) where
  -- one operand
  sole : (w : Expr → Expr) → ((reads level ts >>= λ (e, us). Done (w e, us)) >>= λ (e, us). climbs max e us) ≡ (reads level ts >>= λ (e, us). climbs max (w e) us)
  sole w = bind_again (reads level ts) _ _ ∙ bind_where (reads level ts) _ _ (λ (e, us) _. bind_at (w e, us) _)

  role_sole : (o : Role) → takes_one o (next "[" ts) ≡ true → (role_of f reads t level o ts >>= λ (e, us). climbs max e us) ≡ (reads level ts >>= λ (e, us). climbs max (Prefixed t (sole_of o) e) us)
  role_sole (Plain p) h = sole (λ e. Prefixed t p e)
  role_sole Counted h = ap (λ (r : Read Expr). r >>= λ (e, us). climbs max e us) (leave (next "[" ts) _ _ (not-true (next "[" ts) h)) ∙ sole _
  role_sole (Windowed FinallyIn) h = ap (λ (r : Read Expr). r >>= λ (e, us). climbs max e us) (leave (next "[" ts) _ _ (not-true (next "[" ts) h)) ∙ sole _
  role_sole (Windowed GloballyIn) h = ap (λ (r : Read Expr). r >>= λ (e, us). climbs max e us) (leave (next "[" ts) _ _ (not-true (next "[" ts) h)) ∙ sole _
  role_sole (Folding o) h = absurd (false≢true h)

-- an expression, a sign, then what K reads
closed_then : {B : Type 0} (s : String) (K : Expr × Tokens → Result B) (ts : Tokens) → (closed_by reads s ts >>= K) ≡ (reads loosest ts >>= λ (x, us). expect s us >>= λ (c, vs). K (x, vs))
closed_then s K ts =
    bind_again (reads loosest ts) _ _ ∙ bind_where (reads loosest ts) _ _ (λ (x, us) _. bind_again (expect s us) _ _ ∙ bind_where (expect s us) _ _ (λ (c, vs) _. bind_at (x, vs) _))

same_over : (n : ℕ) (t : Token) (bs : List Binder) (e : Expr) (xs : Tokens) (p q : Big) (a b : Bool) → p ≡ q → a ≡ b → climbs n (over t p a bs e) xs ≡ climbs n (over t q b bs e) xs
same_over n t bs e xs p q a b h k = ap (λ o. climbs n (over t o a bs e) xs) h ∙ ap (λ c. climbs n (over t q c bs e) xs) k

-- the first token has a row of Table 1, whose level is allowed here
module _ (max : ℕ) (ts : Tokens) (r : PrefixRow) (row : prefix_row (front ts) ≡ some r) (tight : leb r.level max ≡ true) where
  level_here_lem : r.level ≡ level_at (front ts)
  unfolding level_at
  level_here_lem = ap level_in (sym row)

  role_here : r.role ≡ role_at (front ts)
  unfolding role_at
  role_here = ap role_in (sym row)

  -- by the role as the token has it
  by_role : (o : Role) → role_at (front ts) ≡ o → reads max ts ≡ (role_of (length ts) reads (front ts) (level_at (front ts)) o (rest ts) >>= λ (e, us). climbs max e us)
  by_role o h =
      reads_role max ts r row tight
      ∙ ap (λ l. role_of (length ts) reads (front ts) l r.role (rest ts) >>= λ (e, us). climbs max e us) level_here_lem
      ∙ ap (λ p. role_of (length ts) reads (front ts) (level_at (front ts)) p (rest ts) >>= λ (e, us). climbs max e us) (role_here ∙ h)

  pub starts_sole : takes_one (role_at (front ts)) (next "[" (rest ts)) ≡ true → reads max ts ≡ (reads (level_at (front ts)) (rest ts) >>= λ (x, us). resume (frame Sole max (front ts)) x us)
  starts_sole h = by_role (role_at (front ts)) refl ∙ role_sole max (length ts) (front ts) (level_at (front ts)) (rest ts) (role_at (front ts)) h

  pub starts-count : role_at (front ts) ≡ Counted → next "[" (rest ts) ≡ true → reads max ts ≡ (reads loosest (rest (rest ts)) >>= λ (x, us). resume (frame Count max (front ts)) x us)
  starts-count h b =
      by_role Counted h
      ∙ ap (λ (q : Read Expr). q >>= λ (e, us). climbs max e us) (pick (next "[" (rest ts)) _ _ b)
      ∙ bind_again (closed_by reads "]" (rest (rest ts))) _ _
      ∙ closed_then "]" _ (rest (rest ts))
      ∙ bind_where (reads loosest (rest (rest ts))) _ _
      (λ (n, us) _. bind_where (expect "]" us) _ _ (λ (c, vs) _. sole max (length ts) (front ts) (level_at (front ts)) vs (λ e. Nexts (front ts) n e)))

  pub starts-window : (o : Window) → role_at (front ts) ≡ Windowed o → next "[" (rest ts) ≡ true → reads max ts ≡ (reads loosest (rest (rest ts)) >>= λ (x, us). resume (frame Low max (front ts)) x us)
  starts-window o h b =
      by_role (Windowed o) h
      ∙ ap (λ (q : Read Expr). q >>= λ (e, us). climbs max e us) (pick (next "[" (rest ts)) _ _ b)
      ∙ bind_again (closed_by reads ":" (rest (rest ts))) _ _
      ∙ closed_then ":" _ (rest (rest ts))
      ∙ bind_where (reads loosest (rest (rest ts))) _ _
      (λ (n, us) _. bind_where (expect ":" us) _ _
      (λ (c, vs) _. bind_again (closed_by reads "]" vs) _ _ ∙ closed_then "]" _ vs
      ∙ bind_where (reads loosest vs) _ _
      (λ (m, xs) _. bind_where (expect "]" xs) _ _
      (λ (d, ys) _. sole max (length ts) (front ts) (level_at (front ts)) ys (λ e. InWindow (front ts) o n m e)
      ∙ bind_where (reads (level_at (front ts)) ys) _ _ (λ (e, zs) _. ap (λ q. climbs max (InWindow (front ts) (window_of q) n m e) zs) (sym h))))))

  -- the tokens behind the first are fewer
  fewer : length (rest ts) < length ts
  unfolding prefix_row
  fewer = go ts row
    where
      go : (us : Tokens) → prefix_of prefixes (front us) ≡ some r → length (rest us) < length us
      go [] e = absurd (some_none (sym e ∙ prefix_none prefixes (front []) refl))
      go (u ∷ us) e = omega arith

  pub starts_fold : (o : Big) → role_at (front ts) ≡ Folding o → eqb max 0 ≡ false → reads max ts ≡ (expect "[" (rest ts) >>= λ (c, us). folds max (front ts) us)
  unfolding folds
  starts_fold o h z =
      by_role (Folding o) h
      ∙ bind_again (expect "[" (rest ts)) _ _
      ∙ bind_where (expect "[" (rest ts)) _ _
      (λ (c, us) e.
      let k = expect_shorter "[" (rest ts) c us e in
      let m = fewer in
      bind_again (binders_of (length ts) reads us) _ _
      ∙ bind_where (binders_of (length ts) reads us) _ _
      (λ (bs, vs) _. sole max (length ts) (front ts) (level_at (front ts)) vs (λ e. over (front ts) o false bs e)
      ∙ bind_where (reads (level_at (front ts)) vs) _ _ (λ (e, xs) _. same_over max (front ts) bs e xs o (big_of (role_at (front ts))) false (eqb max 0) (sym (ap big_of h)) (sym z)))
      ∙ ap (λ (q : Read (List Binder)). q >>= λ (bs, vs). reads (level_at (front ts)) vs >>= λ (e, xs). climbs max (over (front ts) (big_of (role_at (front ts))) (eqb max 0) bs e) xs)
      (binders_fuel (length ts) (suc (length us)) us (omega arith) (omega arith)))
    where
      expect_shorter : (s : String) (us : Tokens) (c : Token) (vs : Tokens) → expect s us ≡ Done (c, vs) → length vs ≤ length us
      expect_shorter s us c vs e = go (next s us) e
        where
          go : (b : Bool) → ◌≡◌ {A = Read Token} (elim b [ true ↦ Done (front us, rest us) | false ↦ stop us ]) (Done (c, vs)) → length vs ≤ length us
          go true e = let same : ◌≡◌ {A = Token × Tokens} (front us, rest us) (c, vs) = cc in omega (arith, ap (λ (p : Token × Tokens). length p.1) same, rest-fits us)
          go false e = absurd (not_done e)

-- a name of a big operator: with its set, or with its bounds
module _ (max : ℕ) (t : Token) (ts : Tokens) where
  abbrev pub is_member : Bool
  is_member = is_of Name (front ts) && named ("IN" ∷ "ELEM" ∷ "<-" ∷ []) (front (rest ts))

  pub folds-member : is_member ≡ true → folds max t ts ≡ (reads loosest (rest (rest ts)) >>= λ (x, us). after_binder max t (record { name = front ts; range = x }) us)
  folds-member h =
      folds-step max t ts
      ∙ ap (λ (r : Read Binder). r >>= λ (b, us). after_binder max t b us)
      (pick is_member (membership_of reads ts) (bounds_of reads ts) h
      ∙ ap (λ (r : Read Token). r >>= λ (i, us). reads loosest (rest us) >>= λ (s, vs). Done (record { name = i; range = s }, vs))
      (pick (is_of Name (front ts)) (Done (front ts, rest ts)) (stop ts) (and_left (is_of Name (front ts)) _ h))
      ∙ bind_at (front ts, rest ts) _)
      ∙ bind_again (reads loosest (rest (rest ts))) _ _ ∙ bind_where (reads loosest (rest (rest ts))) _ _ (λ (s, vs) _. bind_at (record { name = front ts; range = s }, vs) _)

  pub folds_bounds : is_member ≡ false → folds max t ts ≡ (reads bound_level ts >>= λ (x, us). resume (frame Bound max t) x us)
  folds_bounds h =
      folds-step max t ts
      ∙ ap (λ (r : Read Binder). r >>= λ (b, us). after_binder max t b us) (leave is_member (membership_of reads ts) (bounds_of reads ts) h)
      ∙ bind_again (reads bound_level ts) _ _
      ∙ bind_where (reads bound_level ts) _ _
      (λ (a, us) _. bind_again (sign_of us) _ _ ∙ bind_where (sign_of us) _ _
      (λ (low, vs) _. bind_again (expect_of Name vs) _ _ ∙ bind_where (expect_of Name vs) _ _
      (λ (i, ws) _. bind_again (sign_of ws) _ _ ∙ bind_where (sign_of ws) _ _
      (λ (high, xs) _. bind_again (reads bound_level xs) _ _ ∙ bind_where (reads bound_level xs) _ _ (λ (b, ys) _. bind_at (record { name = i; range = Between low.0 low.1 high.1 a b }, ys) _)))))
