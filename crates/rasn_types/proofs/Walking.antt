-- Contents octets read one by one.
use Rattle.std.proofs.Common.{◌≡◌, ◌≢◌, refl, sym, ap, ap₂, ◌∙◌, subst, ℕ, ◌+◌, ◌-◌, ◌*◌, ◌/◌, ◌%◌, ◌^◌, ◌<◌, ◌≤◌, ◌⊎◌, inl, inr, true, false, ◌&&◌, ◌||◌, eqb, ltb, List, [], ◌∷◌, ◌++◌, length, take, drop, get_or, min, Some, None, arith, append_assoc, true≢false, lt-ltb}
use Rattle.std.proofs.lemmas.Bool.{cases_lt, ne_eqb}
use Rattle.std.proofs.lemmas.List.{append-nil, drop_more, take_more, take_all, drop_all}
use Rattle.std.proofs.lemmas.List.Folds.{list_all-append}
use Rattle.std.specs.List.{list_all}
use Rattle.rasn_types.specs.Contents.{next_arc, arcs_after, is_identifier}
use Rattle.rasn_types.specs.Identifiers.{leading_octets, subidentifier, subidentifiers, are_arcs, are_arcs_so_far, contents, begun_arc, limit_after, IsReadOn}
use Rattle.rasn_types.proofs.Writing.{leading_octets-zero, leading_octets-step, subidentifier-is}
use Rattle.rasn_types.proofs.ContentsRead.{both_left, both_right, begun-positive, next_arc-on, next_arc-end, after_there}

-- ---- arcs are appended

subidentifiers-append : (ns : List ℕ) (n : ℕ) → subidentifiers (ns ++ n ∷ []) ≡ subidentifiers ns ++ subidentifier n
subidentifiers-append [] n = append-nil (subidentifier n)
subidentifiers-append (m ∷ ns) n = ap (λ xs. subidentifier m ++ xs) (subidentifiers-append ns n) ∙ sym (append_assoc (subidentifier m) (subidentifiers ns) (subidentifier n))

pub contents-push : (arcs : List ℕ) (n : ℕ) → are_arcs arcs ≡ true → n < 2 ^ 32 → contents (arcs ++ n ∷ []) ≡ contents arcs ++ subidentifier n
unfolding contents
contents-push [] n h l = absurd (true≢false (sym h))
contents-push (a ∷ []) n h l = absurd (true≢false (sym h))
contents-push (a ∷ b ∷ cs) n h l = rw (lawful, h) (subidentifiers-append ((40 * a + b) ∷ cs) n)
  where
    lawful : are_arcs (a ∷ b ∷ cs ++ n ∷ []) ≡ true
    lawful = ap₂ (λ t v. t && v) (both_left (eqb a 2 || (ltb a 2 && ltb b 40)) _ h) (list_all-append (λ arc. ltb arc (2 ^ 32)) (b ∷ cs) (n ∷ [])
        ∙ ap₂ (λ t v. t && v) (both_right (eqb a 2 || (ltb a 2 && ltb b 40)) (list_all (λ arc. ltb arc (2 ^ 32)) (b ∷ cs)) h) (let e : (ltb n (2 ^ 32) && true) ≡ true = rw (lt-ltb n (2 ^ 32) l) refl in e))

pub contents-two : (f n : ℕ) → 40 * f ≤ n → f ≤ 2 → (f < 2 → n < 40 * f + 40) → n < 2 ^ 32 + 80 → contents (f ∷ (n - 40 * f) ∷ []) ≡ subidentifier n
unfolding contents
contents-two f n h k l m = rw lawful (append-nil _ ∙ ap subidentifier (let e : 40 * f + (n - 40 * f) ≡ n = omega arith in e))
  where
    root : (eqb f 2 || (ltb f 2 && ltb (n - 40 * f) 40)) ≡ true
    root = elim (cases_lt f 2) [
      | inl i ↦ rw (ne_eqb f 2 (λ e. omega arith), lt-ltb f 2 i, lt-ltb (n - 40 * f) 40 (omega (arith, l i))) refl
      | inr i ↦ ap (λ (x : ℕ). eqb x 2 || (ltb x 2 && ltb (n - 40 * f) 40)) (let e : f ≡ 2 = omega arith in e)
    ]

    lawful : are_arcs (f ∷ (n - 40 * f) ∷ []) ≡ true
    lawful = rw (root, lt-ltb (n - 40 * f) (2 ^ 32) (elim (cases_lt f 2) [ inl i ↦ omega (arith, l i) | inr i ↦ omega arith ])) refl

-- another arc
pub pushed : (old new : List ℕ) (n : ℕ) → are_arcs_so_far old ≡ true → n < limit_after old → length old ≢ 0 → new ≡ old ++ n ∷ [] → contents new ≡ contents old ++ subidentifier n
pushed [] new n h l e i = absurd (e refl)
pushed (x ∷ xs) new n h l e i = ap contents i ∙ contents-push (x ∷ xs) n h l

-- the first two arcs
pub pushed_two : (old mid new : List ℕ) (f n : ℕ) → length old ≡ 0 → n < limit_after old → f ≡ min (n / 40) 2 → mid ≡ old ++ f ∷ [] → new ≡ mid ++ (n - 40 * f) ∷ [] → contents new ≡ contents old ++ subidentifier n
unfolding contents
pushed_two [] mid new f n e l m i j = ap contents (j ∙ ap (λ xs. xs ++ (n - 40 * f) ∷ []) i) ∙ contents-two f n (omega arith) (omega arith) (λ k. omega arith) l
pushed_two (x ∷ xs) mid new f n e l m i j = absurd (omega arith)

-- ---- the walk

-- the octets before place i are those of the arcs and of the number that has begun, and those from there on decide
-- whether all are lawful
pub record IsReadTo (octets : List ℕ) (i : ℕ) (arcs : List ℕ) (begun : ℕ) : Type 0 where
  pub lawful : are_arcs_so_far arcs ≡ true
  pub below : begun < limit_after arcs
  pub read : take i octets ≡ contents arcs ++ leading_octets begun begun
  pub left : arcs_after (Some (begun_arc begun (limit_after arcs))) (drop i octets) ≡ arcs_after (Some (begun_arc 0 (2 ^ 32 + 80))) octets

pub begins : (octets : List ℕ) → IsReadTo octets 0 [] 0
unfolding contents leading_octets
begins octets = record { lawful = refl; below = omega arith; read = refl; left = refl }

-- one octet more of what was read
more : (octets arcs : List ℕ) (i begun : ℕ) → i < length octets → IsReadTo octets i arcs begun → take (i + 1) octets ≡ contents arcs ++ (leading_octets begun begun ++ get_or octets i 0 ∷ [])
more octets arcs i begun l r = take_more octets i 0 l ∙ ap (λ xs. xs ++ get_or octets i 0 ∷ []) r.read ∙ append_assoc (contents arcs) _ _

-- one octet less of what is left
less : (octets arcs : List ℕ) (i begun : ℕ) → i < length octets → IsReadTo octets i arcs begun →
    arcs_after (next_arc (begun_arc begun (limit_after arcs)) (get_or octets i 0)) (drop (i + 1) octets) ≡ arcs_after (Some (begun_arc 0 (2 ^ 32 + 80))) octets
less octets arcs i begun l r = sym (ap (λ xs. arcs_after (Some (begun_arc begun (limit_after arcs))) xs) (drop_more octets i 0 l)) ∙ r.left

pub goes_on : (octets arcs : List ℕ) (i begun o n : ℕ) → i < length octets → o ≡ get_or octets i 0 → o < 256 → 128 ≤ o → IsReadOn begun (limit_after arcs) o n → IsReadTo octets i arcs begun → IsReadTo octets (i + 1) arcs n
goes_on octets arcs i begun o n l e w h s r = record {
  lawful = r.lawful;
  below = s.below;
  read = more octets arcs i begun l r ∙ ap (λ xs. contents arcs ++ xs) (sym spelled);
  left = ap (λ c. arcs_after c (drop (i + 1) octets)) (sym next) ∙ less octets arcs i begun l r;
}
  where
    positive : 0 < 128 * begun + o % 128
    positive = begun-positive begun o h w s.fewest

    spelled : leading_octets n n ≡ leading_octets begun begun ++ get_or octets i 0 ∷ []
    spelled = leading_octets-step n (λ f. let v = s.value in let p = positive in omega arith)
        ∙ ap₂ (λ (a b : ℕ). leading_octets a a ++ b ∷ []) (let f : n / 128 ≡ begun = let v = s.value in omega arith in f) (let f : 128 + n % 128 ≡ get_or octets i 0 = let v = s.value in omega arith in f)

    next : next_arc (begun_arc begun (limit_after arcs)) (get_or octets i 0) ≡ Some (begun_arc n (limit_after arcs))
    next = ap (λ (x : ℕ). next_arc (begun_arc begun (limit_after arcs)) x) (sym e)
        ∙ next_arc-on begun o (limit_after arcs) h w (subst (λ (x : ℕ). x < limit_after arcs) s.value s.below) s.fewest ∙ ap (λ (x : ℕ). Some (begun_arc x (limit_after arcs))) (sym s.value)

pub ends : (octets arcs new : List ℕ) (i begun o n : ℕ) → i < length octets → o ≡ get_or octets i 0 → o < 128 → IsReadOn begun (limit_after arcs) o n → IsReadTo octets i arcs begun →
    are_arcs new ≡ true → contents new ≡ contents arcs ++ subidentifier n → IsReadTo octets (i + 1) new 0
ends octets arcs [] i begun o n l e h s r k c = absurd (true≢false (sym k))
ends octets arcs (x ∷ xs) i begun o n l e h s r k c = record {
  lawful = k;
  below = omega arith;
  read = more octets arcs i begun l r ∙ ap (λ ys. contents arcs ++ ys) (sym spelled) ∙ sym c ∙ sym (append-nil _) ∙ ap (λ ys. contents (x ∷ xs) ++ ys) (sym (leading_octets-zero 0));
  left = ap (λ a. arcs_after a (drop (i + 1) octets)) (sym next) ∙ less octets arcs i begun l r;
}
  where
    spelled : subidentifier n ≡ leading_octets begun begun ++ get_or octets i 0 ∷ []
    spelled = subidentifier-is n
        ∙ ap₂ (λ (a b : ℕ). leading_octets a a ++ b ∷ []) (let f : n / 128 ≡ begun = let v = s.value in omega arith in f) (let f : n % 128 ≡ get_or octets i 0 = let v = s.value in omega arith in f)

    next : next_arc (begun_arc begun (limit_after arcs)) (get_or octets i 0) ≡ Some (begun_arc 0 (2 ^ 32))
    next = ap (λ (y : ℕ). next_arc (begun_arc begun (limit_after arcs)) y) (sym e)
        ∙ next_arc-end begun o (limit_after arcs) h (subst (λ (y : ℕ). y < limit_after arcs) s.value s.below)

-- where the next octet may not stand, the octets aren't lawful
pub stops : (octets arcs : List ℕ) (i begun o : ℕ) → i < length octets → o ≡ get_or octets i 0 → next_arc (begun_arc begun (limit_after arcs)) o ≡ None → IsReadTo octets i arcs begun → is_identifier octets ≡ false
stops octets arcs i begun o l e n r = after_there octets (λ f. let g = ap length f in absurd (omega arith)) ∙ sym (less octets arcs i begun l r)
    ∙ ap (λ c. arcs_after c (drop (i + 1) octets)) (ap (λ (x : ℕ). next_arc (begun_arc begun (limit_after arcs)) x) (sym e) ∙ n)

-- where the octets end and there is no arc, or a number has begun, they aren't lawful
pub unfinished : (octets arcs : List ℕ) (i begun : ℕ) → length octets ≤ i → (length arcs ≡ 0) ⊎ (0 < begun) → IsReadTo octets i arcs begun → is_identifier octets ≡ false
unfolding is_identifier contents
unfinished [] arcs i begun l s r = refl
unfinished (o ∷ os) arcs i begun l s r = elim (cases_lt 0 begun) [
  | inl h ↦ sym r.left ∙ ap (λ xs. arcs_after (Some (begun_arc begun (limit_after arcs))) xs) (drop_all i (o ∷ os) l) ∙ rw (lt-ltb 0 begun h) refl
  | inr h ↦ nothing arcs s (let e : begun ≡ 0 = omega arith in e) r.read
]
  where
    nothing : (xs : List ℕ) → (length xs ≡ 0) ⊎ (0 < begun) → begun ≡ 0 → take i (o ∷ os) ≡ contents xs ++ leading_octets begun begun → is_identifier (o ∷ os) ≡ false
    nothing [] s e f = let g : o ∷ os ≡ [] = sym (take_all i (o ∷ os) l) ∙ f ∙ ap (λ (m : ℕ). leading_octets m m) e ∙ leading_octets-zero 0 in absurd (cc)
    nothing (x ∷ xs) (inl n) e f = absurd (omega arith)
    nothing (x ∷ xs) (inr n) e f = absurd (omega arith)

-- where they end after an arc, they are the contents of the arcs
pub finished : (octets arcs : List ℕ) (i begun : ℕ) → length octets ≤ i → begun ≡ 0 → length arcs ≢ 0 → IsReadTo octets i arcs begun → (contents arcs ≡ octets) × (are_arcs arcs ≡ true)
finished octets [] i begun l b n r = absurd (n refl)
finished octets (x ∷ xs) i begun l b n r = (sym (sym (take_all i octets l) ∙ r.read ∙ ap (λ (m : ℕ). contents (x ∷ xs) ++ leading_octets m m) b ∙ ap (λ ys. contents (x ∷ xs) ++ ys) (leading_octets-zero 0) ∙ append-nil _), r.lawful)

-- the limit is that after the arcs
pub at_limit : (arcs : List ℕ) (limit begun o n : ℕ) → limit ≡ limit_after arcs → IsReadOn begun limit o n → IsReadOn begun (limit_after arcs) o n
at_limit arcs limit begun o n e s = subst (λ (m : ℕ). IsReadOn begun m o n) e s

pub stops_at_limit : (octets arcs : List ℕ) (limit i begun o : ℕ) → limit ≡ limit_after arcs → i < length octets → o ≡ get_or octets i 0 → next_arc (begun_arc begun limit) o ≡ None → IsReadTo octets i arcs begun → is_identifier octets ≡ false
stops_at_limit octets arcs limit i begun o e l f n r = stops octets arcs i begun o l f (subst (λ (m : ℕ). next_arc (begun_arc begun m) o ≡ None) e n) r
