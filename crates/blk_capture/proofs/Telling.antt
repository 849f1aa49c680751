use Rattle.std.proofs.Common.{ℕ, ◌≡◌, ◌<◌, ◌+◌, ◌++◌, ◌∙◌, suc, cond, Bool, true, false, List, [], ◌∷◌, length, get_or, map, take, refl, arith, ap, sym}
use Rattle.std.specs.Prelude.{Result, Ok, Err, IfOk}
use Rattle.std.proofs.lemmas.List.{map_push, take_more, length-map}
use Rattle.blk_capture.specs.Fates.{opened_by, made_by, is_matched, told}
use Rattle.blk_capture.specs.Inside.Roles.{is_known}
use Rattle.blk_capture.specs.declared.fates.Fate.{Fate}
use Rattle.blk_capture.specs.declared.matching.Role.{Role}
use Rattle.blk_capture.specs.declared.record.Action.{Action}
use Rattle.blk_capture.specs.declared.record.Action.TheVariants as action
use Rattle.blk_capture.specs.declared.record.Record.{Record}

-- what is unmatched opened and made nothing
pub opened_none : (a : Action) → opened_by a false ≡ false
opened_none action.Queue = refl
opened_none action.Get = refl
opened_none action.BackMerge = refl
opened_none action.FrontMerge = refl
opened_none action.Insert = refl
opened_none action.Issue = refl
opened_none action.Complete = refl
opened_none action.Requeue = refl
opened_none action.Split = refl
opened_none action.Plug = refl
opened_none action.Unplug = refl
opened_none action.Other = refl

pub made_none : (a : Action) → made_by a false ≡ false
made_none action.Queue = refl
made_none action.Get = refl
made_none action.BackMerge = refl
made_none action.FrontMerge = refl
made_none action.Insert = refl
made_none action.Issue = refl
made_none action.Complete = refl
made_none action.Requeue = refl
made_none action.Split = refl
made_none action.Plug = refl
made_none action.Unplug = refl
made_none action.Other = refl

pub told_none : {F : Type 0} (p : Action → F → Bool) (records : List Record) → told p records [] ≡ 0
unfolding told
told_none p [] = refl
told_none p (r ∷ records) = refl

step : (b : Bool) (n m : ℕ) → m ≡ n + cond b 1 0 → cond b (suc n) n ≡ m
step true n m e = omega (arith, e)
step false n m e = omega (arith, e)

more : (b b2 : Bool) (n m : ℕ) → m ≡ n + cond b2 1 0 → cond b (suc m) m ≡ cond b (suc n) n + cond b2 1 0
more true b2 n m e = omega (arith, e)
more false b2 n m e = e

-- one more record's
pub told_more : {F : Type 0} (p : Action → F → Bool) (records : List Record) (fates : List F) (f : F) (d : Record) → length fates < length records → told p records (fates ++ f ∷ []) ≡ told p records fates + cond (p (get_or records (length fates) d).action f) 1 0
unfolding told
told_more p [] fates f d here = absurd (omega (arith, here))
told_more p (r ∷ records) [] f d here = step (p r.action f) (told p records []) _ (ap (λ n. n + cond (p r.action f) 1 0) (sym (told_none p records)))
told_more p (r ∷ records) (g ∷ fates) f d here =
    more (p r.action g) (p (get_or records (length fates) d).action f) (told p records fates) (told p records (fates ++ f ∷ [])) (told_more p records fates f d (omega (arith, here)))

-- the next record, and what is said about it
pub told_next : {F : Type 0} (p : Action → F → Bool) (records : List Record) (fates new : List F) (f : F) (n m m2 : ℕ) (d : Record) → length fates ≡ n → n < length records → m ≡ told p records fates
    → m2 ≡ m + cond (p (get_or records n d).action f) 1 0 → new ≡ fates ++ f ∷ [] → m2 ≡ told p records new
told_next p records fates new f n m m2 d same here so_far next is =
    let at : told p records (fates ++ f ∷ []) ≡ told p records fates + cond (p (get_or records (length fates) d).action f) 1 0 = told_more p records fates f d (omega (arith, here, same)) in
    next
    ∙ ap (λ k. k + cond (p (get_or records n d).action f) 1 0) so_far
    ∙ ap (λ k. told p records fates + cond (p (get_or records k d).action f) 1 0) (sym same)
    ∙ sym at
    ∙ ap (told p records) (sym is)

-- what a part of it says
pub told_map : {F G : Type 0} (p : Action → G → Bool) (h : F → G) (records : List Record) (fates : List F) → told (λ a f. p a (h f)) records fates ≡ told p records (map h fates)
unfolding told
told_map p h [] fates = refl
told_map p h (r ∷ records) [] = refl
told_map p h (r ∷ records) (f ∷ fates) = ap (λ n. cond (p r.action (h f)) (suc n) n) (told_map p h records fates)

-- records are matched as their roles are known, so both tell the same
pub told_alike : (p : Action → Bool → Bool) (records : List Record) (fates : List Fate) (roles : List Role) → map is_matched fates ≡ map is_known roles
    → told (λ a f. p a (is_matched f)) records fates ≡ told (λ a x. p a (is_known x)) records roles
told_alike p records fates roles same = told_map p is_matched records fates ∙ ap (told p records) same ∙ sym (told_map p is_known records roles)

-- one more, of which the same is said
pub mapped_more : {F G B : Type 0} (p : F → B) (q : G → B) (fates new : List F) (roles : List G) (n : ℕ) (f : F) (d : G) → map p fates ≡ map q (take n roles) → n < length roles → p f ≡ q (get_or roles n d) → new ≡ fates ++ f ∷ []
    → map p new ≡ map q (take (n + 1) roles)
mapped_more p q fates new roles n f d so_far here same is =
    ap (map p) is
    ∙ map_push p fates f
    ∙ ap (λ xs. xs ++ p f ∷ []) so_far
    ∙ ap (λ b. map q (take n roles) ++ b ∷ []) same
    ∙ sym (map_push q (take n roles) (get_or roles n d))
    ∙ ap (map q) (sym (take_more roles n d here))

pub fates_each : (fates : List Fate) (roles : List Role) → map is_matched fates ≡ map is_known roles → length fates ≡ length roles
fates_each fates roles same = sym (length-map fates is_matched) ∙ ap length same ∙ length-map roles is_known

-- what two clauses of a value say together
pub both_ok : {X E : Type 0} (r : Result X E) (P Q R : X → Type 0) → ((x : X) → P x → Q x → R x) → IfOk r P → IfOk r Q → IfOk r R
both_ok (Ok x) P Q R f p q = f x p q
both_ok (Err e) P Q R f p q = tt

pub four_ok : {X E : Type 0} (r : Result X E) (P Q R S T : X → Type 0) → ((x : X) → P x → Q x → R x → S x → T x) → IfOk r P → IfOk r Q → IfOk r R → IfOk r S → IfOk r T
four_ok (Ok x) P Q R S T f p q u v = f x p q u v
four_ok (Err e) P Q R S T f p q u v = tt
