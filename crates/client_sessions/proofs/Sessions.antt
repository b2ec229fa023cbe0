-- Commands that are carried out one after another.
use Rattle.std.proofs.Common.{◌≡◌, ℕ, ◌+◌, ◌-◌, ◌^◌, ◌<◌, ◌≤◌, min, Bool, true, false, List, [], ◌∷◌, ◌++◌, length, get_or, take, refl, sym, ap, ◌∙◌, subst, append_assoc, length-append, arith}
use Rattle.std.specs.Prelude.{nat_le}
use Rattle.std.specs.List.{AllByRecursion}
use Rattle.std.proofs.lemmas.Bool.{le-leb, leb-true, true≢false}
use Rattle.std.proofs.lemmas.List.{take_more, take_all}
use Rattle.base_types.specs.Faults.{Rose}
use Rattle.frame_core.specs.declared.raw.RawFrame.{RawFrame}
use Rattle.segment_cut.proofs.Lists.{all-append}
use Rattle.bucket_core.specs.History.{History, author}
use Rattle.store_model.specs.Law.{IsLawful}
use Rattle.expr_clause.specs.declared.command.Command.{Command}
use Rattle.reply_model.specs.declared.reply.Reply.{Reply}
use Rattle.reply_model.specs.Windows.{Window, Client, is_cut}
use Rattle.reply_model.specs.Blocks.{Cutting}
use Rattle.reply_model.specs.Standing.{GrowsAlone, IsStep, RunsGrow}
use Rattle.reply_model.specs.Legal.{IsLegalReply, LegalFrom}
use Rattle.reply_model.specs.Runs.{is_covered}
use Rattle.version_chain.specs.Traces.{GoesOn}
use Rattle.library_api.specs.Steps.{client_of, IsLegalIn}
use Rattle.library_api.specs.declared.settings.Settings.{Settings}
use Rattle.client_sessions.specs.Sessions.{IsSession}
use Rattle.client_sessions.proofs.Windows.{legal_later, ends_within, legal_push, covered_before, covered_behind, faults_push}

-- ---- lists

-- what holds of all holds of those before the last, and of the last
all-front : {A : Type 0} (P : A → Type 0) (xs : List A) (x : A) → AllByRecursion P (xs ++ x ∷ []) → AllByRecursion P xs
all-front P [] x all = tt
all-front P (y ∷ xs) x all = (all.0, all-front P xs x all.1)

all-last : {A : Type 0} (P : A → Type 0) (xs : List A) (x : A) → AllByRecursion P (xs ++ x ∷ []) → P x
all-last P [] x all = all.0
all-last P (y ∷ xs) x all = all-last P xs x all.1

-- ---- sessions

-- no commands
pub session_none : (cutting : Cutting) (grow : RunsGrow) (client : Client) (sole : Bool) (f : ℕ) (old : History) → IsSession cutting client sole f f [] [] old old
session_none cutting grow client sole f old = record {
  more = [];
  goes_on = refl;
  lawful = λ l. l;
  own = λ s. tt;
  windows = [];
  legal = tt;
  covered = λ n after before. absurd (omega (arith, after, before));
  faults = refl;
  alone = λ s l uncut. grow.none cutting client.session old;
}

-- one command more, whose events were added to the history
module _ (cutting : Cutting) (grow : RunsGrow) (client : Client) (cs : List Command) (rs : List Reply) (c : Command) (r : Reply) (old mid new : History) (f0 f1 f2 : ℕ) (sole still : Bool) (more : f1 ≤ f2) (stays : sole ≡ true → still ≡ true)
    (x : IsSession cutting client sole f0 f1 cs rs old mid) (g : GoesOn client.session.client still mid new) (legal : IsLegalIn client f1 f2 mid new c r) (stands : IsLawful mid → GrowsAlone client.session.client mid new → is_cut r.outcome ≡ false → IsStep cutting client.session c r mid new) where
  -- the window of what was added
  abbrev added : Bool → Window
  added faulted = record { start = length mid; stop = length new; faulted = faulted }

  longer : length old ≤ length mid
  longer = let size : length mid ≡ length (x.more ++ old) = ap (λ (h : History). length h) x.goes_on in omega (arith, size, length-append x.more old)

  covered : (faulted : Bool) (n : ℕ) → length old < n → n ≤ length new → is_covered (x.windows ++ added faulted ∷ []) n ≡ true
  covered faulted n after before = of (nat_le n (length mid)) refl
    where
      of : (b : Bool) → nat_le n (length mid) ≡ b → is_covered (x.windows ++ added faulted ∷ []) n ≡ true
      of true is = covered_before x.windows (added faulted) n (x.covered n after (leb-true n (length mid) is))
      of false is = let lt : length mid < n = grind (arith, is) in covered_behind x.windows (added faulted) n lt before

  with_flag : (faulted : Bool) → (Rose f1 f2 → faulted ≡ true) → (faulted ≡ true → Rose f1 f2) → IsSession cutting client sole f0 f2 (cs ++ c ∷ []) (rs ++ r ∷ []) old new
  with_flag faulted set marked = record {
    more = g.more ++ x.more;
    goes_on = g.is ∙ (ap (λ (h : History). g.more ++ h) x.goes_on ∙ sym (append_assoc g.more x.more old));
    lawful = λ l. g.lawful (x.lawful l);
    own = λ s. all-append (λ e. author e ≡ client.session.client) g.more x.more (g.alone (stays s)) (x.own s);
    windows = x.windows ++ added faulted ∷ [];
    legal = subst (λ (h : History). LegalFrom h client (length old) (cs ++ c ∷ []) (rs ++ r ∷ []) (x.windows ++ added faulted ∷ [])) (sym g.is)
        (legal_push (g.more ++ mid) client (length old) cs rs x.windows c r (added faulted) (legal_later mid g.more client (length old) cs rs x.windows x.legal)
        (ends_within mid client (length old) cs rs x.windows longer x.legal) (subst (λ (h : History). IsLegalReply h client c r (added faulted)) g.is (legal faulted set)));
    covered = covered faulted;
    faults = faults_push f0 f1 f2 x.windows (added faulted) more marked x.faults;
    alone = λ s l uncut. grow.one_more_alone cutting client.session cs rs c r old mid new x.more g.more x.goes_on g.is (λ before. x.alone before l (all-front _ rs r uncut)) (λ after. stands (x.lawful l) after (all-last _ rs r uncut)) s;
  }

  pub session_more : IsSession cutting client sole f0 f2 (cs ++ c ∷ []) (rs ++ r ∷ []) old new
  session_more = of (nat_le (min (f1 + 1) (2 ^ 64 - 1)) f2) refl
    where
      of : (b : Bool) → nat_le (min (f1 + 1) (2 ^ 64 - 1)) f2 ≡ b → IsSession cutting client sole f0 f2 (cs ++ c ∷ []) (rs ++ r ∷ []) old new
      of true is =
          let rose : Rose f1 f2 = leb-true (min (f1 + 1) (2 ^ 64 - 1)) f2 is in
          with_flag true (λ _. refl) (λ _. rose)
      of false is =
          let calm : Rose f1 f2 → ⊥ = λ rose. true≢false (sym (le-leb (min (f1 + 1) (2 ^ 64 - 1)) f2 rose) ∙ is) in
          with_flag false (λ rose. absurd (calm rose)) (λ marked. absurd (true≢false (sym marked)))

-- a client by equal settings, number and limit
pub same_client : (frames : List RawFrame) (s t : Settings) (m n k l : ℕ) → s ≡ t → m ≡ n → k ≡ l → client_of frames s m k ≡ client_of frames t n l
same_client frames s t m n k l e f g = ap (λ (x : Settings). client_of frames x m k) e ∙ (ap (λ (x : ℕ). client_of frames t x k) f ∙ ap (λ (x : ℕ). client_of frames t n x) g)

-- the commands up to the next place
pub session_at : (cutting : Cutting) (grow : RunsGrow) (client : Client) (list : List Command) (i : ℕ) (rs : List Reply) (c : Command) (r : Reply) (old mid new : History) (f0 f1 f2 : ℕ) (sole still : Bool) → i < length list → c ≡ get_or list i c → f1 ≤ f2 → (sole ≡ true → still ≡ true) →
    IsSession cutting client sole f0 f1 (take i list) rs old mid → GoesOn client.session.client still mid new → IsLegalIn client f1 f2 mid new c r → (IsLawful mid → GrowsAlone client.session.client mid new → is_cut r.outcome ≡ false → IsStep cutting client.session c r mid new)
    → IsSession cutting client sole f0 f2 (take (i + 1) list) (rs ++ r ∷ []) old new
session_at cutting grow client list i rs c r old mid new f0 f1 f2 sole still lt is more stays x g legal stands =
    let next : take (i + 1) list ≡ take i list ++ c ∷ [] = take_more list i c lt ∙ ap (λ (d : Command). take i list ++ d ∷ []) (sym is) in
    subst (λ (cs : List Command). IsSession cutting client sole f0 f2 cs (rs ++ r ∷ []) old new) (sym next) (session_more cutting grow client (take i list) rs c r old mid new f0 f1 f2 sole still more stays x g legal stands)

-- all commands
pub session_all : (cutting : Cutting) (client : Client) (sole : Bool) (list : List Command) (i : ℕ) (rs : List Reply) (old new : History) (f0 f1 : ℕ) → length list ≤ i → IsSession cutting client sole f0 f1 (take i list) rs old new → IsSession cutting client sole f0 f1 list rs old new
session_all cutting client sole list i rs old new f0 f1 le x = subst (λ (cs : List Command). IsSession cutting client sole f0 f1 cs rs old new) (take_all i list le) x
