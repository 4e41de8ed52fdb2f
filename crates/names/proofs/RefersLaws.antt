-- Resolved entries give what every expression among them refers to.
use Rattle.std.specs.Prelude.{ℕ, suc, ◌+◌, ◌-◌, ◌<◌, List, [], ◌∷◌, ◌++◌, Bool, true, false, ◌≡◌, refl, length, get_or}
use Rattle.std.proofs.Math.Option.{Option, none, some}
use Rattle.std.proofs.Common.{sym, ap, ap₂, ◌∙◌, subst, arith, length-append}
use Rattle.language.specs.Tokens.{Token}
use Rattle.language.specs.Operators.{Big}
use Rattle.language.specs.Tree.{Expr, Named, Numeral, Truth, Index, Paren, Prefixed, Joined, Nexts, InWindow, Each, Between, Listed, Empty, Element, Range}
use Rattle.language.specs.Names.{Names}
use Rattle.language.proofs.Laws.Basics.Tests.{pick, leave, same_refl}
use Rattle.entries.specs.Kinds as Kind
use Rattle.entries.specs.Flat.{Entry, under, flat}
use Rattle.entries.specs.FlatLaws.{own-more}
use Rattle.names.specs.Roles.{binds, ends}
use Rattle.names.specs.QuietLaws.{quiet_truth, quiet_before, quiet_joining, quiet_window, quiet_between, ending-big}
use Rattle.names.specs.Scan.{token_of}
use Rattle.names.specs.Walkable.{names, entry_of}
use Rattle.names.specs.References.{reference}
use Rattle.names.specs.Walking.{open_after, refers_to}
use Rattle.names.proofs.WalkBinders.{reference-same}
use Rattle.names.specs.Refers.{Refers, Run, run-one, run-split}

-- what an entry makes of the open names
pub open_kept : (bs : Names) (n : Entry) → binds n.kind ≡ false → ends n.kind ≡ false → open_after bs n ≡ bs
unfolding open_after
open_kept bs n a b = leave (binds n.kind) _ _ a ∙ leave (ends n.kind) _ _ b

pub open_more : (bs : Names) (n : Entry) → binds n.kind ≡ true → open_after bs n ≡ token_of n ∷ bs
unfolding open_after
open_more bs n a = pick (binds n.kind) _ _ a

pub open_less : (b : Token) (bs : Names) (n : Entry) → binds n.kind ≡ false → ends n.kind ≡ true → open_after (b ∷ bs) n ≡ bs
unfolding open_after
open_less b bs n x y = leave (binds n.kind) _ _ x ∙ pick (ends n.kind) _ _ y

pub binding : (further : Bool) → (binds (Kind.binder further) ≡ true) × (names (Kind.binder further) ≡ true)
binding false = (refl, refl)
binding true = (refl, refl)

-- the index before those of an operand
before_it : (m c : ℕ) → m - 1 ≡ m + c - 1 - c
before_it m c = omega arith

module _ (es : List Entry) (refs : List ℕ) (declared : Names) (all : (i : ℕ) → i < length es → names (entry_of es i).kind ≡ true → get_or refs i 0 ≡ refers_to declared es i) where
  again : {start : ℕ} {bs : Names} {ops post : List Entry} → Run es start bs [] (ops ++ post) → Run es start bs ops post
  again r = record { here = r.here; opened = r.opened }

  -- what the entry at an index has, and the run behind it
  value_at_lem : (k : ℕ) (bs : Names) (n : Entry) (post : List Entry) → Run es k bs [] (n ∷ post) → names n.kind ≡ true → get_or refs k 0 ≡ reference declared (open_after bs n) (token_of n)
  value_at_lem k bs n post r y =
      let d = run-one es k bs n post (record { here = r.here; opened = r.opened }) in
      all k d.0 (ap (λ m. names m.kind) d.1 ∙ y) ∙ ap₂ (λ os m. reference declared os (token_of m)) d.2.opened d.1

  pub record Gone (start : ℕ) (bs : Names) (e : Expr) (post : List Entry) : Type 0 where
    pub after : Run es (start + length (flat e)) bs [] post
    pub refers : Refers refs declared bs (start + length (flat e) - 1) e

  abbrev Goes : Expr → Type 0
  Goes e = (start : ℕ) (bs : Names) (post : List Entry) → Run es start bs (flat e) post → Gone start bs e post

  -- an entry behind its operands
  module _ (k : ℕ) (t : Option Token) (ops : List Entry) (start : ℕ) (bs : Names) (post : List Entry) where
    abbrev own : Entry
    own = record { kind = k; token = t; size = suc (length ops) }

    operands : Run es start bs (under k t ops) post → Run es start bs ops (own ∷ post)
    operands r = run-split es start bs ops (own ∷ []) post r

    behind : (cs : Names) → open_after bs own ≡ cs → Run es (start + length ops) bs [] (own ∷ post) → Run es (start + length (under k t ops)) cs [] post
    behind cs e r =
        let d = run-one es (start + length ops) bs own post (record { here = r.here; opened = r.opened }) in
        let i : suc (start + length ops) ≡ start + length (under k t ops) = (let l = own-more k t ops in omega arith) in
        subst (λ m. Run es m cs [] post) i (record { here = d.2.here; opened = d.2.opened ∙ e })

    own-index : start + length ops ≡ start + length (under k t ops) - 1
    own-index = let l = own-more k t ops in omega arith

  -- operands one behind the other
  both : (a b : Expr) → Goes a → Goes b → (start : ℕ) (bs : Names) (post : List Entry) → Run es start bs (flat a ++ flat b) post
      → Gone start bs a (flat b ++ post) × Gone (start + length (flat a)) bs b post × Run es (start + length (flat a ++ flat b)) bs [] post
  both a b f g start bs post r =
      let ga = f start bs (flat b ++ post) (run-split es start bs (flat a) (flat b) post r) in
      let gb = g (start + length (flat a)) bs post (again ga.after) in
      let i : start + length (flat a) + length (flat b) ≡ start + length (flat a ++ flat b) = (let l = length-append (flat a) (flat b) in omega arith) in
      (ga, gb, subst (λ m. Run es m bs [] post) i gb.after)

  one_goes : (e : Expr) (k : ℕ) (t : Option Token) → Goes e → binds k ≡ false → ends k ≡ false → (start : ℕ) (bs : Names) (post : List Entry) → Run es start bs (under k t (flat e)) post
      → Run es (start + length (under k t (flat e))) bs [] post × Refers refs declared bs (start + length (under k t (flat e)) - 1 - 1) e
  one_goes e k t f x y start bs post r =
      let n = own k t (flat e) start bs post in
      let g = f start bs (n ∷ post) (operands k t (flat e) start bs post r) in
      (behind k t (flat e) start bs post bs (open_kept bs n x y) g.after, subst (λ m. Refers refs declared bs m e) (ap (λ m. m - 1) (own-index k t (flat e) start bs post)) g.refers)

  two_go : (a b : Expr) (k : ℕ) (t : Option Token) → Goes a → Goes b → binds k ≡ false → ends k ≡ false → (start : ℕ) (bs : Names) (post : List Entry)
      → Run es start bs (under k t (flat a ++ flat b)) post → Run es (start + length (under k t (flat a ++ flat b))) bs [] post × Refers refs declared bs
      (start + length (under k t (flat a ++ flat b)) - 1 - 1 - length (flat b)) a × Refers refs declared bs (start + length (under k t (flat a ++ flat b)) - 1 - 1) b
  two_go a b k t f g x y start bs post r =
      let ops = flat a ++ flat b in
      let n = own k t ops start bs post in
      let p = both a b f g start bs (n ∷ post) (operands k t ops start bs post r) in
      let l = own-more k t ops in
      let m = length-append (flat a) (flat b) in
      let ia : start + length (flat a) - 1 ≡ start + length (under k t ops) - 1 - 1 - length (flat b) = omega arith in
      let ib : start + length (flat a) + length (flat b) - 1 ≡ start + length (under k t ops) - 1 - 1 = omega arith in
      (behind k t ops start bs post bs (open_kept bs n x y) p.2, subst (λ i. Refers refs declared bs i a) ia p.0.refers, subst (λ i. Refers refs declared bs i b) ib p.1.refers)

  three_go : (a b c : Expr) (k : ℕ) (t : Option Token) → Goes a → Goes b → Goes c → binds k ≡ false → ends k ≡ false → (start : ℕ) (bs : Names) (post : List Entry)
      → Run es start bs (under k t (flat a ++ (flat b ++ flat c))) post
      → Run es (start + length (under k t (flat a ++ (flat b ++ flat c)))) bs [] post × Refers refs declared bs
      (start + length (under k t (flat a ++ (flat b ++ flat c))) - 1 - 1 - length (flat c) - length (flat b)) a × Refers refs declared bs
      (start + length (under k t (flat a ++ (flat b ++ flat c))) - 1 - 1 - length (flat c)) b × Refers refs declared bs (start + length (under k t (flat a ++ (flat b ++ flat c))) - 1 - 1) c
  three_go a b c k t f g q x y start bs post r =
      let ops = flat a ++ (flat b ++ flat c) in
      let n = own k t ops start bs post in
      let ga = f start bs ((flat b ++ flat c) ++ n ∷ post) (run-split es start bs (flat a) (flat b ++ flat c) (n ∷ post) (operands k t ops start bs post r)) in
      let p = both b c g q (start + length (flat a)) bs (n ∷ post) (again ga.after) in
      let l = own-more k t ops in
      let m = length-append (flat a) (flat b ++ flat c) in
      let o = length-append (flat b) (flat c) in
      let all_of : start + length (flat a) + length (flat b ++ flat c) ≡ start + length ops = omega arith in
      let ic : start + length (flat a) + length (flat b) + length (flat c) - 1 ≡ start + length (under k t ops) - 1 - 1 = omega arith in
      let ib : start + length (flat a) + length (flat b) - 1 ≡ start + length (under k t ops) - 1 - 1 - length (flat c) = before_it (start + length (flat a) + length (flat b)) (length (flat c)) ∙ ap
      (λ d. d - length (flat c)) ic in
      let ia : start + length (flat a) - 1 ≡ start + length (under k t ops) - 1 - 1 - length (flat c) - length (flat b) = before_it (start + length (flat a)) (length (flat b)) ∙ ap
      (λ d. d - length (flat b)) ib in (
        behind k t ops start bs post bs (open_kept bs n x y) (subst (λ i. Run es i bs [] (n ∷ post)) all_of p.2),
        subst (λ i. Refers refs declared bs i a) ia ga.refers,
        subst
            (λ i. Refers refs declared bs i b) ib p.0.refers,
        subst (λ i. Refers refs declared bs i c) ic p.1.refers,
      )

  -- a big operator: its operand is under its name
  each_goes : (t : Token) (o : Big) (further : Bool) (i : Token) (s e : Expr) → Goes s → Goes e → Goes (Each t o further i s e)
  each_goes t o further i s e f g start bs post r =
      let kb = Kind.binder further in
      let set = under kb (some i) (flat s) in
      let ops = set ++ flat e in
      let en = own (Kind.big o) (some t) ops start bs post in
      let bn = own kb (some i) (flat s) start bs post in
      let inner = flat e ++ en ∷ post in
      let rs = run-split es start bs set (flat e) (en ∷ post) (operands (Kind.big o) (some t) ops start bs post r) in
      let gs = f start bs (bn ∷ inner) (operands kb (some i) (flat s) start bs inner rs) in
      let more : open_after bs bn ≡ i ∷ bs = open_more bs bn (binding further).0 in
      let value = value_at_lem (start + length (flat s)) bs bn inner gs.after (binding further).1 ∙ ap (λ u. reference declared u i) more ∙ reference-same declared i bs i (same_refl i.text) in
      let ge = g (start + length set) (i ∷ bs) (en ∷ post) (again (behind kb (some i) (flat s) start bs inner (i ∷ bs) more gs.after)) in
      let l = own-more (Kind.big o) (some t) ops in
      let m = length-append set (flat e) in
      let q = own-more kb (some i) (flat s) in
      let all_of : start + length set + length (flat e) ≡ start + length ops = omega arith in
      let is : start + length (flat s) - 1 ≡ start + length (under (Kind.big o) (some t) ops) - 1 - 1 - length (flat e) - 1 = omega arith in
      let ib : start + length (flat s) ≡ start + length (under (Kind.big o) (some t) ops) - 1 - 1 - length (flat e) = omega arith in
      let ie : start + length set + length (flat e) - 1 ≡ start + length (under (Kind.big o) (some t) ops) - 1 - 1 = omega arith in
      record {
        after = behind (Kind.big o) (some t) ops start (i ∷ bs) post bs (open_less i bs en (ending-big o).no_binder (ending-big o).is-end)
            (subst (λ d. Run es d (i ∷ bs) [] (en ∷ post)) all_of ge.after);
        refers = (subst (λ d. Refers refs declared bs d s) is gs.refers, ap (λ d. get_or refs d 0) (sym ib) ∙ value, subst (λ d. Refers refs declared (i ∷ bs) d e) ie ge.refers);
      }

  -- a name and an index
  own_value : (k : ℕ) (t : Token) (ops : List Entry) → binds k ≡ false → ends k ≡ false → names k ≡ true → (start : ℕ) (bs : Names) (post : List Entry)
      → Run es (start + length ops) bs [] (record { kind = k; token = some t; size = suc (length ops) } ∷ post) → get_or refs (start + length (under k (some t) ops) - 1) 0 ≡ reference declared bs t
  own_value k t ops x y z start bs post r =
      let n = own k (some t) ops start bs post in
      ap (λ d. get_or refs d 0) (sym (own-index k (some t) ops start bs post)) ∙ value_at_lem (start + length ops) bs n post r z ∙ ap (λ u. reference declared u t) (open_kept bs n x y)

  leaf_goes : (k : ℕ) (t : Token) → binds k ≡ false → ends k ≡ false → (start : ℕ) (bs : Names) (post : List Entry) → Run es start bs (under k (some t) []) post
      → Run es (start + 0) bs [] (record { kind = k; token = some t; size = 1 } ∷ post) × Run es (start + length (under k (some t) [])) bs [] post
  leaf_goes k t x y start bs post r =
      let n = own k (some t) [] start bs post in
      let here : start ≡ start + 0 = omega arith in
      let r0 : Run es (start + 0) bs [] (n ∷ post) = subst (λ d. Run es d bs [] (n ∷ post)) here (record { here = r.here; opened = r.opened }) in
      (r0, behind k (some t) [] start bs post bs (open_kept bs n x y) r0)

  pub expr_goes : (e : Expr) → Goes e
  expr_goes (Named t) start bs post r =
      let l = leaf_goes Kind.named t refl refl start bs post r in
      record { after = l.1; refers = own_value Kind.named t [] refl refl refl start bs post l.0 }
  expr_goes (Numeral t) start bs post r = record { after = (leaf_goes Kind.numeral t refl refl start bs post r).1; refers = tt }
  expr_goes (Truth t b) start bs post r = record { after = (leaf_goes Kind.truth t quiet_truth.no_binder quiet_truth.no_end start bs post r).1; refers = tt }
  expr_goes (Index t e) start bs post r =
      let n = own Kind.index (some t) (flat e) start bs post in
      let g = expr_goes e start bs (n ∷ post) (operands Kind.index (some t) (flat e) start bs post r) in
      let p = one_goes e Kind.index (some t) (expr_goes e) refl refl start bs post r in
      record { after = p.0; refers = (own_value Kind.index t (flat e) refl refl refl start bs post g.after, p.1) }
  expr_goes (Paren t e) start bs post r = let p = one_goes e Kind.paren (some t) (expr_goes e) refl refl start bs post r in record { after = p.0; refers = p.1 }
  expr_goes (Prefixed t o e) start bs post r =
      let p = one_goes e (Kind.before o) (some t) (expr_goes e) (quiet_before o).no_binder (quiet_before o).no_end start bs post r in record { after = p.0; refers = p.1 }
  expr_goes (Joined t o a b) start bs post r =
      let p = two_go a b (Kind.joining o) (some t) (expr_goes a) (expr_goes b) (quiet_joining o).no_binder (quiet_joining o).no_end start bs post r in record { after = p.0; refers = (p.1, p.2) }
  expr_goes (Nexts t n e) start bs post r =
      let p = two_go n e Kind.nexts (some t) (expr_goes n) (expr_goes e) refl refl start bs post r in record { after = p.0; refers = (p.1, p.2) }
  expr_goes (InWindow t o n m e) start bs post r =
      let p = three_go n m e Kind.window (some t) (expr_goes n) (expr_goes m) (expr_goes e) quiet_window.no_binder quiet_window.no_end start bs post r in
      record { after = p.0; refers = (p.1, p.2, p.3) }
  expr_goes (Each t o further i s e) start bs post r = each_goes t o further i s e (expr_goes s) (expr_goes e) start bs post r
  expr_goes (Between t l h a b) start bs post r =
      let p = two_go a b (Kind.between h) (some t) (expr_goes a) (expr_goes b) (quiet_between h).no_binder (quiet_between h).no_end start bs post r in
      record { after = p.0; refers = (p.1, p.2) }
  expr_goes (Listed t e) start bs post r = let p = one_goes e Kind.listed (some t) (expr_goes e) refl refl start bs post r in record { after = p.0; refers = p.1 }
  expr_goes Empty start bs post r = record { after = (let z : start ≡ start + 0 = omega arith in subst (λ d. Run es d bs [] post) z r); refers = tt }
  expr_goes (Element e d) start bs post r =
      let p = two_go e d Kind.element none (expr_goes e) (expr_goes d) refl refl start bs post r in record { after = p.0; refers = (p.1, p.2) }
  expr_goes (Range t x y z) start bs post r =
      let p = three_go x y z Kind.range (some t) (expr_goes x) (expr_goes y) (expr_goes z) refl refl start bs post r in record { after = p.0; refers = (p.1, p.2, p.3) }

  -- an entry of a line, behind its expression if it has one
  pub entry_goes : (n : Entry) → binds n.kind ≡ false → ends n.kind ≡ false → (start : ℕ) (bs : Names) (post : List Entry) → Run es start bs [] (n ∷ post)
      → Run es (suc start) bs [] post × (names n.kind ≡ true → get_or refs start 0 ≡ reference declared bs (token_of n))
  entry_goes n x y start bs post r =
      let d = run-one es start bs n post (record { here = r.here; opened = r.opened }) in
      (record { here = d.2.here; opened = d.2.opened ∙ open_kept bs n x y }, λ z. value_at_lem start bs n post r z ∙ ap (λ u. reference declared u (token_of n)) (open_kept bs n x y))
