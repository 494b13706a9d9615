-- T1: over any run from open the receiver with its window answers as the plain one.
-- Assumes nothing.
use Prim.Native.Nat.{ℕ, ◌<◌}
use mathlib.Core.Path.{◌≡◌, refl, sym, ap, ◌∙◌}
use mathlib.Core.Bool.{Bool, true, false}
use mathlib.Core.List.{List, [], ◌∷◌, map}
use native.Mathlib.Omega.{arith}
use lib.Dec.{eqb}
use lib.ListN.{length}
use Rattle.channel.proofs.Outcome.{code_is, effect_is, refused_is, bad_first}
use Rattle.channel.proofs.Zeros.{zeros_bad_receiver}
use Rattle.record.proofs.Zeros.{zeros_bad}
use Rattle.numbers.specs.Contract.{width_of, seen_by}
use Rattle.numbers.specs.Memory.{Remembers}
use Rattle.numbers.proofs.Laws.{remembers_none, remembers_after}
use Rattle.answers.proofs.Tests.{true_not_false}
use Rattle.answers.specs.Refusal as Refusal
use Rattle.channel.specs.Call.{Call, Answer, only, Effect, stay, marking, turning, dropping}
use Rattle.channel.specs.Key.{new_key, remark}
use Rattle.channel.specs.Receiver.{new_receiver, zero_receiver, face_of, look, change, open_receiver}
use Rattle.channel.specs.Rules.{outcome}
use Rattle.channel.specs.View.{View}
use Rattle.channel.specs.declared.key.Key.{Key}
use Rattle.channel.specs.declared.receiver.Receiver.{Receiver}
use Rattle.record.specs.Nonce.{zeros12}
use Rattle.record.specs.Setting.{zero_setting, bad_setting, open_rows, rule_of}
use Rattle.record.specs.declared.setting.Setting.{Setting}
use Rattle.promises.specs.Run.{after_by, answers_by, answers_of}
use Rattle.promises.specs.Plain.{PlainKey, Plain, new_plain_key, new_plain, open_plain, plain_face, old_of, plain_look, remember, remember_first, plain_change, plain_answers}
use Rattle.promises.proofs.Passed.{Allowed, marks, allowed}
use Rattle.promises.proofs.Good.{Good, good_whole, good_change, good_new, held_there}
use Rattle.promises.proofs.Alike.{FaceAlike, Alike, outcome_alike}

-- ---- a key with a window and a key with a list

pub record Agree (s : Setting) (k : Key) (p : PlainKey) : Type 0 where
  pub ivs : k.iv ≡ p.iv
  pub shows : Remembers (rule_of s) k.window p.numbers

pub faces : (s : Setting) (k : Key) (p : PlainKey) → Agree s k p → FaceAlike (width_of (rule_of s)) (face_of k) (plain_face p)
unfolding seen_by
faces s k p a = record { ivs = a.ivs; nexts = a.shows.top; seens = a.shows.agree }

agree_new : (s : Setting) (iv : List ℕ) → Agree s (new_key iv) (new_plain_key iv)
agree_new s iv = record { ivs = refl; shows = remembers_none (rule_of s) }

agree_mark : (s : Setting) (k : Key) (p : PlainKey) (n : ℕ) → Agree s k p → n < s.limit → Agree s (remark s k n) (remember p n)
agree_mark s k p n a h = record { ivs = a.ivs; shows = remembers_after (rule_of s) k.window p.numbers a.shows n h }

-- ---- the two receivers

pub record Related (r : Receiver) (p : Plain) : Type 0 where
  pub settings : r.setting ≡ p.setting
  pub counts : r.count ≡ length p.past
  pub helds : r.held ≡ p.held
  pub current : Agree r.setting r.current p.now
  pub old : Agree r.setting r.old (old_of p.held p.past)
  pub good : Good r

pub views : (r : Receiver) (p : Plain) → Related r p → Alike (look r) (plain_look p)
unfolding look plain_look
views r p R = record {
  settings = R.settings;
  bads = good_whole r R.good ∙ sym (rw R.settings at R.good.accepted);
  counted = R.counts;
  current = faces _ _ _ R.current;
  helds = R.helds;
  old = faces _ _ _ R.old;
}

-- ---- each effect keeps them related

old_mark : (h : Bool) (past : List PlainKey) (n : ℕ) → h ≡ true → 0 < length past
    → old_of h (remember_first past n) ≡ remember (old_of h past) n
unfolding old_of remember_first
old_mark false past n h e = absurd (true_not_false h refl)
old_mark true [] n h e = absurd (omega arith)
old_mark true (k ∷ past) n h e = refl

length_first : (past : List PlainKey) (n : ℕ) → length (remember_first past n) ≡ length past
unfolding remember_first
length_first [] n = refl
length_first (k ∷ past) n = refl

mark_related : (r : Receiver) (p : Plain) (slot n : ℕ) (b : Bool) → eqb slot 0 ≡ b → Related r p → n < r.setting.limit
    → (b ≡ false → r.held ≡ true) → Good (change r (marking slot n)) → Related (change r (marking slot n)) (plain_change p (marking slot n))
unfolding change plain_change
mark_related r p slot n true e R l h G =
    record {
      settings = R.settings;
      counts = rw e R.counts;
      helds = R.helds;
      current = rw e (agree_mark _ _ _ n R.current l);
      old = rw e R.old;
      good = G;
    }
mark_related r p slot n false e R l h G =
    let held : p.held ≡ true = sym R.helds ∙ h refl in
    let c : 0 < length p.past = rw R.counts at (R.good.counted (h refl)) in
    record {
      settings = R.settings;
      counts = rw e (R.counts ∙ sym (length_first p.past n));
      helds = R.helds;
      current = rw e R.current;
      old = rw (e, old_mark p.held p.past n held c) (agree_mark _ _ _ n R.old l);
      good = G;
    }

pub preserve : (r : Receiver) (p : Plain) (e : Effect) → Related r p → Allowed (look r) e → Related (change r e) (plain_change p e)
unfolding change plain_change look old_of
preserve r p stay R a = R
preserve r p (marking slot n) R (marks key place) =
    mark_related r p slot n (eqb slot 0) refl R place.spare (held_there (look r) slot key)
    (good_change r (marking slot n) R.good (marks key place))
preserve r p (turning iv) R a =
    record {
      settings = R.settings;
      counts = rw R.counts (omega arith);
      helds = refl;
      current = agree_new r.setting iv;
      old = R.current;
      good = good_change r (turning iv) R.good a;
    }
preserve r p dropping R a =
    record {
      settings = R.settings;
      counts = R.counts;
      helds = refl;
      current = R.current;
      old = agree_new r.setting zeros12;
      good = good_change r dropping R.good a;
    }

pub step_related : (r : Receiver) (p : Plain) (c : Call) → Related r p
    → (outcome (look r) c ≡ outcome (plain_look p) c) × Related (after_by look outcome change r c) (after_by plain_look outcome plain_change p c)
unfolding after_by
step_related r p c R =
    let same = outcome_alike (look r) (plain_look p) (views r p R) c in
    (same, rw (← same) (preserve r p (outcome (look r) c).effect R (allowed (look r) c)))

pub simulate : (r : Receiver) (p : Plain) (cs : List Call) → Related r p → answers_of r cs ≡ plain_answers p cs
unfolding answers_by
simulate r p [] R = refl
simulate r p (c ∷ cs) R =
    let s = step_related r p c R in
    let same = s.0 in
    let rest = simulate (after_by look outcome change r c) (after_by plain_look outcome plain_change p c) cs s.1 in
    λ i. (same i).answer ∷ rest i

pub related_new : (s : Setting) (iv : List ℕ) → bad_setting s ≡ false → Related (new_receiver s iv) (new_plain s iv)
unfolding old_of
related_new s iv h =
    record {
      settings = refl;
      counts = refl;
      helds = refl;
      current = agree_new s iv;
      old = agree_new s zeros12;
      good = good_new s iv h;
    }

-- ---- an Open that was refused: every call answers State

pub bad_outcome : (v : View) (c : Call) → v.bad ≡ true → outcome v c ≡ record { answer = only Refusal.state; effect = stay }
unfolding Refusal.authentic Refusal.marks
bad_outcome v c h =
    let k : (outcome v c).answer.code ≡ Refusal.state = code_is v c ∙ bad_first v c h in
    let a : (outcome v c).answer ≡ only Refusal.state = refused_is v c (λ z. omega (arith, k)) ∙ ap only k in
    let e : (outcome v c).effect ≡ stay = effect_is v c ∙ rw k in
    λ i. record { answer = a i; effect = e i }

pub bad_answers : {S : Type 0} (looks : S → View) (changes : S → Effect → S) (s : S) → changes s stay ≡ s → (looks s).bad ≡ true
    → (cs : List Call) → answers_by looks outcome changes s cs ≡ map (λ c. only Refusal.state) cs
unfolding answers_by after_by
bad_answers looks changes s e h [] = refl
bad_answers looks changes s e h (c ∷ cs) =
    let o = bad_outcome (looks s) c h in
    let n : changes s (outcome (looks s) c).effect ≡ s = rw o e in
    rw (n, o) (ap (λ (l : List Answer). only Refusal.state ∷ l) (bad_answers looks changes s e h cs))

pub as_plain : (s : Setting) (iv : List ℕ) (cs : List Call) → answers_of (open_receiver s iv).next cs ≡ plain_answers (open_plain s iv) cs
unfolding open_rows change plain_change look plain_look
as_plain s iv cs = go (bad_setting s) refl
  where
    go : (b : Bool) → bad_setting s ≡ b → answers_of (open_receiver s iv).next cs ≡ plain_answers (open_plain s iv) cs
    go true e = rw e (bad_answers look change zero_receiver refl zeros_bad_receiver cs ∙ sym (bad_answers plain_look plain_change (new_plain zero_setting zeros12) refl zeros_bad cs))
    go false e = rw e (simulate (new_receiver s iv) (new_plain s iv) cs (related_new s iv e))
