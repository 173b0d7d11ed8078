-- Bounds for the needs of the stages of EXISTS that are left of a product, from counts by level: a cofactor of a stage is the same stage of
-- an arrow that is followed from the product and leads above the stage's levels, or a row of the `odd_f` of one that leads to them.
-- Assumes nothing.
use mathlib.Core.Path.{◌≡◌, refl, sym, ap, ◌∙◌, subst, fun_ext}
use mathlib.Core.Logic.{◌⊎◌, inl, inr, ⊎_elim, by_cases}
use mathlib.Core.Bool.{Bool, true, false}
use mathlib.Core.List.Memᴰ.{cases_cons as mem-cases}
use mathlib.Core.List.Memᴰ.{head as here}
use mathlib.Core.List.{List, [], ◌∷◌, ◌++◌, map, Memᴰ as Mem}
use mathlib.Core.List.Memᴰ.{append_left as mem-left}
use mathlib.Core.List.Memᴰ.{append_right as mem-right}
use mathlib.Core.List.Memᴰ.{cast as mem_cast}
use mathlib.Core.List.Memᴰ.{map as mem-map}
use Prim.Native.Nat.{ℕ, suc, ◌+◌, ◌*◌, ◌≤◌}
use native.Mathlib.Decide.{dec_le, dec_lt, ℕ_discrete}
use native.Mathlib.Omega.{arith}
use lib.ListN.{length-map, length-append}
use Rattle.diagram.specs.Level.{Val, Fn, turn, upd, splice, CofactorOf, Varies}
use Rattle.diagram.proofs.Level.{turn_inj, upd_other, splice-above, Reads, reads_from, part-cofactor}
use Rattle.diagram.specs.Rows.{Rows, marked, target, Leads, row, Arrow, den, WellFormed}
use Rattle.diagram.proofs.Rows.{row-leads, row-arrow, leads-level}
use Rattle.diagram.proofs.Den.{den-leads, den_reads}
use Rattle.diagram.proofs.Canon.{level-told}
use Rattle.diagram.specs.Count.{Within}
use Rattle.diagram.specs.Need.{need}
use Rattle.diagram.proofs.Needed.{class, classes, class_turn, class_eq, need-length, mem-needed}
use Rattle.diagram.specs.Reach.{Reach}
use Rattle.diagram.proofs.Reach.{reach-on, reach-part, den_reads_all, walk, cofactor-row, tab}
use Rattle.diagram.proofs.Keep.{reach-within}
use Rattle.diagram.proofs.Sizes.{need-within, Rooted, row-needed}
use Rattle.diagram.specs.Odd.{exists_from, odd_f, Follows, self, on}
use Rattle.diagram.proofs.OddLaws.{from_reads}
use Rattle.diagram.proofs.Stages.{splice_again, from-splice, splice_reads, stage_row}
use Rattle.diagram.specs.Blind.{Blind}
use Rattle.diagram.proofs.Blind.{blind-cut, blind-cofactor, blind-part, cofactor_reads_from, from-even, blind-odd, odd-blind}
use Rattle.diagram.specs.Tally.{sum_to, sum_from}
use Rattle.diagram.proofs.Tally.{Surveyed, AddedRows, CoveredBy, list_to, list_from, mem_list_to, mem_list_from, length_list_to}
use Rattle.diagram.proofs.Tally.{length_list_from}

-- Some of the roots denote sets of states: they read no odd level.
pub record Evens (m : ℕ) (rows : Rows) (roots evens : List ℕ) : Type 0 where
  pub within : Within evens roots
  pub blind : (b : ℕ) → Mem b evens → Blind 0 (den m rows b)

-- Where a cofactor g of a stage of arrow a comes from: an arrow that is followed from a, of which g is the same stage, where no more than
-- the levels before the stage's are fixed;
pub record Near (m : ℕ) (rows : Rows) (a i d j : ℕ) (g : Fn) : Type 0 where
  pub arrow : ℕ
  pub follows : Follows rows a arrow
  pub is-arrow : Arrow rows arrow
  pub unread : Blind i (den m rows arrow)
  pub same : (v : Val) → g v ≡ exists_from d j (den m rows arrow) v

-- or one that reads only the stage's levels, and of whose `odd_f` g is the cofactor that fixes as much, where more is fixed.
pub record Far (m : ℕ) (rows : Rows) (a j k : ℕ) (u : Val) (g : Fn) : Type 0 where
  pub arrow : ℕ
  pub follows : Follows rows a arrow
  pub is-arrow : Arrow rows arrow
  pub reads : Reads (suc (2 * j)) m (den m rows arrow)
  pub same : (v : Val) → g v ≡ odd_f (den m rows arrow) (splice k u v)

module _ {m N : ℕ} {rows : Rows} (wf : WellFormed m N rows) where
  -- The level of a row is read by each function of its class.
  pub level-seen : (i : ℕ) (g : Fn) → rows.used i ≡ true → Reads 0 m g → tab wf i ≡ class m g
      → ((v : Val) → g (upd v (rows.level i) false) ≡ g (upd v (rows.level i) true)) → ⊥
  level-seen i g u r e same =
      let (b, q) = class_eq (den_reads_all wf (row i) (row-arrow rows i u)) r e in
      level-told wf (row i) i (row-leads i) u (λ v. turn_inj b _ _ (q _ ∙ same v ∙ sym (q _)))

  -- The row of a set of states that reads only levels from 2 j + 1 on is of a level from 2 j + 2 on.
  pub level-even : (i j : ℕ) (g : Fn) → rows.used i ≡ true → Reads 0 m g → Reads (suc (2 * j)) m g → Blind 0 g → tab wf i ≡ class m g
      → 2 * suc j ≤ rows.level i
  level-even i j g u r rj bl e =
      let l = rows.level i in
      by_cases (dec_le (2 * suc j) l) (λ h. h)
      (λ h. absurd (level-seen i g u r e (λ v.
      by_cases (ℕ_discrete l (suc (2 * j)))
      (λ q. rw q (bl j (omega arith) v false ∙ sym (bl j (omega arith) v true)))
      (λ ne. rj _ _ (λ k a b. upd_other v l false k (omega arith) ∙ sym (upd_other v l true k (omega arith)))))))

  -- Where a cofactor of a stage comes from.
  module _ {n i : ℕ} (a : ℕ) (em : m ≡ 2 * n) (small : n ≤ 16) (le : i ≤ n) (wa : Arrow rows a) (blind : Blind i (den m rows a))
      (d j : ℕ) (ed : d + j ≡ i) (g : Fn)
      (c : CofactorOf (exists_from d j (den m rows a)) g) where
    pub near : c.upto ≤ suc (2 * j) → Near m rows a i d j g
    near h =
        let cut : Fn = λ w. den m rows a (splice c.upto c.fixed w) in
        let x = walk wf (Follows rows a) (λ x i b p l. on b p l) a cut self wa
        (record { upto = c.upto; fixed = c.fixed; same = λ v. refl }) in
        let ec : cut ≡ den m rows x.arrow = sym (fun_ext x.same) in
        record {
          arrow = x.arrow;
          follows = x.holds;
          is-arrow = x.is-arrow;
          unread = subst (Blind i) ec (blind-cut {f = den m rows a} i c.upto c.fixed blind);
          same = λ v. c.same v ∙ from-splice d j c.upto c.fixed (den m rows a) h v ∙ ap (λ (q : Fn). exists_from d j q v) ec;
        }

    pub far : suc (2 * j) ≤ c.upto → Far m rows a j c.upto c.fixed g
    far h =
        let cut : Fn = λ w. den m rows a (splice (suc (2 * j)) c.fixed w) in
        let x = walk wf (Follows rows a) (λ x i b p l. on b p l) a cut self wa
        (record { upto = suc (2 * j); fixed = c.fixed; same = λ v. refl }) in
        let f : Fn = den m rows x.arrow in
        let ec : cut ≡ f = sym (fun_ext x.same) in
        let rd : Reads (suc (2 * j)) m f = subst (Reads (suc (2 * j)) m) ec
        (splice_reads (suc (2 * j)) c.fixed (den_reads_all wf a wa)) in
        let bf : Blind i f = subst (Blind i) ec (blind-cut {f = den m rows a} i (suc (2 * j)) c.fixed blind) in
        let o = blind-odd {m = m} f i (omega arith) bf d j ed rd in
        record {
          arrow = x.arrow;
          follows = x.holds;
          is-arrow = x.is-arrow;
          reads = rd;
          same = λ v.
              c.same v ∙ ap (exists_from d j (den m rows a)) (sym (splice_again (suc (2 * j)) c.upto c.fixed v h))
              ∙ from-splice d j (suc (2 * j)) c.fixed (den m rows a) (omega arith) (splice c.upto c.fixed v)
              ∙ ap (λ (q : Fn). exists_from d j q (splice c.upto c.fixed v)) ec ∙ ap (λ (q : Fn). q (splice c.upto c.fixed v)) o;
        }

  module _ {fs : List Fn} {roots evens bs : List ℕ} {above added : ℕ → ℕ} {a n i : ℕ}
      (em : m ≡ 2 * n) (small : n ≤ 16) (le : i ≤ n) (rooted : Rooted m rows fs roots) (even : Evens m rows roots evens)
      (wa : Arrow rows a) (blind : Blind i (den m rows a)) (covered : CoveredBy m rows bs a)
      (s : Surveyed rows evens a above) (t : AddedRows rows roots bs added) where
    -- The classes of a stage of the surveyed arrows that lead above its levels, and of the rows added from its levels on.
    abbrev pub stage_of : ℕ → ℕ → ℕ → List Bool
    stage_of d j c = class m (exists_from d j (den m rows c))

    abbrev pub above_tabs : ℕ → ℕ → List (List Bool)
    above_tabs d j = map (stage_of d j) (list_to s.arrows (suc (2 * j)))

    abbrev pub added_tabs : ℕ → ℕ → List (List Bool)
    added_tabs k z = map (tab wf) (list_from t.listed k z)

    -- A cofactor of the `odd_f` of a followed arrow that reads only the stage's levels is needed already, or of the rows added.
    told-added : (c j k z : ℕ) → k ≤ 2 * suc j → m ≤ k + z → Follows rows a c → Arrow rows c → Reads (suc (2 * j)) m (den m rows c)
        → (g : Fn) → CofactorOf (odd_f (den m rows c)) g → Varies g → Mem (class m g) (classes m fs) ⊎ Mem (class m g) (added_tabs k z)
    told-added c j k z ek ez f wc rd g co y =
        let (x, rx, p) = covered c f in
        let co' : CofactorOf (den m rows x) g = record { upto = co.upto; fixed = co.fixed; same = λ v. co.same v ∙ sym (p.same _) } in
        let (r, t1, w, q) = cofactor-row wf (x ∷ []) x g (here refl) p.arrow co' y in
        let odd : Fn = odd_f (den m rows c) in
        let rg : Reads (suc (2 * j)) m g = cofactor_reads_from {f = odd} (from_reads 16 0 rd) co in
        let bg : Blind 0 g = blind-cofactor {f = odd} 0 (odd-blind {hi = m} {f = den m rows c} (omega arith) (den_reads_all wf c wc)) co in
        let lo = level-even r j g w (reads_from 0 (omega arith) rg) rg bg q in
        let hi = (wf.ok r w).shallow in
        ⊎_elim (λ h. inl (mem_cast (sym q) (row-needed wf rooted r h)))
        (λ h. inr (mem_cast (sym q) (mem-map (tab wf) (mem_list_from t.listed (rows.level r) k z (omega arith) (omega arith) h))))
        (t.all r (reach-on rx t1))

    -- B3: a row that is reached from a set of states is its own stage.
    told-live : (c r d j : ℕ) → Leads c r → Reach rows evens r → (g : Fn) → ((v : Val) → g v ≡ exists_from d j (den m rows c) v)
        → Mem (class m g) (classes m fs)
    told-live c r d j l re g e =
        let arrows : (b : ℕ) → Mem b evens → Arrow rows b = λ b h. (rooted.listed b (even.within b h)).0 in
        let (b, mb, p) = reach-part wf arrows re in
        let br : Blind 0 (den m rows (row r)) = blind-part {f = den m rows b} 0 (even.blind b mb) p in
        let bc : Blind 0 (den m rows c) = λ x h v z. den-leads m rows c r l _ ∙ ap (turn (marked c)) (br x h v z)
        ∙ sym (den-leads m rows c r l v) in
        let own : exists_from d j (den m rows c) ≡ den m rows c = from-even (den m rows c) d j bc in
        let q : class m g
        ≡ tab wf r = class_turn m (marked c) (den m rows (row r)) (λ v. e v ∙ ap (λ (f : Fn). f v) own ∙ den-leads m rows c r l v) in
        mem_cast q (row-needed wf rooted r (reach-within (λ b j e. even.within b) re))

    -- B0: each non-constant cofactor of a stage is needed already, the same stage of a surveyed arrow above its levels, or of the rows
    -- added.
    pub told : (d j k z : ℕ) → d + j ≡ i → k ≤ 2 * suc j → m ≤ k + z → (g : Fn) → CofactorOf (exists_from d j (den m rows a)) g → Varies g
        → Mem (class m g) (classes m fs) ⊎ (Mem (class m g) (above_tabs d j) ⊎ Mem (class m g) (added_tabs k z))
    told d j k z ed ek ez g c y =
        by_cases (dec_le c.upto (suc (2 * j)))
        (λ h.
        let x = near a em small le wa blind d j ed g c h in
        let f : Fn = den m rows x.arrow in
        let (r, l) = stage_row m rows x.arrow (target x.arrow) refl d j g (λ v. v) x.same y in
        by_cases (dec_lt (rows.level r) (suc (2 * j)))
        (λ lt. ⊎_elim (λ re. inl (told-live x.arrow r d j l re g x.same))
        (λ mx. inr
        (inl (mem_cast (ap (class m) (fun_ext x.same))
        (mem-map (stage_of d j) (mem_list_to s.arrows (rows.level r) (suc (2 * j)) lt mx)))))
        (s.all x.arrow r x.follows l))
        (λ ge.
        let lv = leads-level m rows x.arrow r l in
        let rd : Reads (suc (2 * j)) m f = reads_from (suc (2 * j)) (omega arith) (den_reads wf m x.arrow x.is-arrow) in
        let o = blind-odd {m = m} f i (omega arith) x.unread d j ed rd in
        let co : CofactorOf (odd_f f) g = record {
          upto = 0;
          fixed = c.fixed;
          same = λ v. x.same v ∙ ap (λ (q : Fn). q v) o ∙ ap (odd_f f) (fun_ext λ p. sym (splice-above 0 c.fixed v p (omega arith)));
        } in
        ⊎_elim (λ q. inl q) (λ q. inr (inr q)) (told-added x.arrow j k z ek ez x.follows x.is-arrow rd g co y)))
        (λ h.
        let x = far a em small le wa blind d j ed g c (omega arith) in
        ⊎_elim (λ q. inl q) (λ q. inr (inr q))
        (told-added x.arrow j k z ek ez x.follows x.is-arrow x.reads g
        (record { upto = c.upto; fixed = c.fixed; same = x.same }) y))

    -- B1: two neighbouring stages beside functions that are needed already.
    pub stage_two : (d j z : ℕ) → suc d + j ≡ i → m ≤ 2 * suc j + z
        → need m (exists_from (suc d) j (den m rows a) ∷ exists_from d (suc j) (den m rows a) ∷ fs)
        ≤ need m fs + (sum_to above (suc (2 * j)) + sum_to above (suc (2 * suc j)) + sum_from added (2 * suc j) z)
    stage_two d j z ed ez =
        let f = exists_from (suc d) j (den m rows a) in
        let f' = exists_from d (suc j) (den m rows a) in
        let k = 2 * suc j in
        let xs = classes m fs in
        let ys = above_tabs (suc d) j in
        let ys' = above_tabs d (suc j) in
        let zs = added_tabs k z in
        let rest = ys ++ (ys' ++ zs) in
        let all = need-within m (f ∷ f' ∷ fs) (xs ++ rest) (λ h g mh c y.
        ⊎_elim (λ e. ⊎_elim (λ x. mem-left {s = xs} rest x)
        (λ q. mem-right xs (⊎_elim (λ x. mem-left {s = ys} (ys' ++ zs) x) (λ x. mem-right ys (mem-right ys' x)) q))
        (told (suc d) j k z ed (omega arith) ez g (subst (λ h. CofactorOf h g) e c) y))
        (λ more. ⊎_elim (λ e. ⊎_elim (λ x. mem-left {s = xs} rest x)
        (λ q. mem-right xs (mem-right ys (⊎_elim (λ x. mem-left {s = ys'} zs x) (λ x. mem-right ys' x) q)))
        (told d (suc j) k z (omega arith) (omega arith) ez g (subst (λ h. CofactorOf h g) e c) y))
        (λ mf. mem-left {s = xs} rest (mem-needed fs mf (rooted.reads h mf) (part-cofactor c) y))
        (mem-cases more))
        (mem-cases mh))
        in
        omega (
          arith,
          all,
          need-length m fs,
          length-append xs rest,
          length-append ys (ys' ++ zs),
          length-append ys' zs,
          length-map (list_to s.arrows (suc (2 * j))) (stage_of (suc d) j),
          length-map (list_to s.arrows (suc (2 * suc j))) (stage_of d (suc j)),
          length-map (list_from t.listed k z) (tab wf),
          length_list_to s.arrows above s.counted (suc (2 * j)),
          length_list_to s.arrows above s.counted (suc (2 * suc j)),
          length_list_from t.listed added t.counted k z,
        )
