-- The reply of a burial is legal, from facts about its own events.
use Rattle.std.proofs.Common.{◌≡◌, ◌⊎◌, ℕ, ◌≤◌, true, false, ◌||◌, List, [], ◌∷◌, length, refl, ap, sym, ◌∙◌, subst, None}
use Rattle.std.specs.Prelude.{⊤, MatchBool}
use Rattle.std.specs.List.{list_any, AllByRecursion}
use Rattle.key_kind.specs.Names.{Name}
use Rattle.bucket_core.specs.declared.event.Event.{Event}
use Rattle.bucket_core.specs.History.{History, history_at}
use Rattle.expr_clause.specs.declared.command.Command.{Command}
use Rattle.reply_model.specs.declared.reply.Reply.{Reply}
use Rattle.reply_model.specs.Kinds.{kind_of, burial_command, Burial, Listed, Older, Buries}
use Rattle.reply_model.specs.Answering.{Session}
use Rattle.reply_model.specs.Windows.{Window, own_events, refer_places, is_cut, is_answered, is_store_fault, AreCommits}
use Rattle.reply_model.specs.Tries.{IsTurn, one_if}
use Rattle.reply_model.specs.OwnEvents.{AnyMarks, IsOwnOf, IsBeginning, IsMeantAt, AreMeantOf, is_end, is_last_of, is_done}
use Rattle.reply_model.specs.Left.{known_events, left_of, stood_before, MayBeLeft}
use Rattle.reply_model.specs.Legal.{IsListedOf, IsListedWithin, IsLegalOutcome, IsLegalSeen}

-- what is to be shown of its reply
pub record SeenFacts (new : History) (s : Session) (limit : ℕ) (c : Command) (symbol : Name) (reply : Reply) (w : Window) : Type 0 where
  pub after : w.start ≤ reply.place
  pub before : reply.place ≤ w.stop
  pub listed : reply.listed ≡ None
  pub left : reply.left ≡ []
  pub events : MatchBool (is_cut reply.outcome)
      (IsBeginning (IsTurn new s w symbol false true (is_answered reply.outcome) AnyMarks) (own_events new s.client w) ⊎ IsBeginning (IsTurn new s w symbol false false (is_answered reply.outcome) AnyMarks) (own_events new s.client w))
      (IsTurn new s w symbol false (is_done reply) (is_answered reply.outcome) AnyMarks (own_events new s.client w))
  pub commits : AreCommits (is_store_fault reply.outcome) reply.commits (refer_places s.client w.start (history_at new w.stop))
  pub short : is_cut reply.outcome ≡ true → is_store_fault reply.outcome ≡ false → list_any is_end (own_events new s.client w) ≡ false
  pub meant : MatchBool (is_store_fault reply.outcome) (AllByRecursion (IsMeantAt new s c reply) (refer_places s.client w.start (history_at new w.stop))) ⊤
  pub late : MatchBool (is_cut reply.outcome) (length (own_events new s.client (record w { start = reply.place })) ≤ one_if (is_store_fault reply.outcome)) ⊤
  pub outcome : IsLegalOutcome new (record { session = s; limit = limit }) c reply w reply.outcome

-- the command of a burial is of its kind
pub kind_is : (symbol : Name) (burial : Burial) → kind_of (burial_command symbol burial) ≡ Buries symbol burial
kind_is symbol (Listed versions) = refl
kind_is symbol Older = refl

burial_last : (symbol : Name) (burial : Burial) (es : List Event) → list_any (is_last_of (Buries symbol burial)) es ≡ list_any is_end es
burial_last symbol burial [] = refl
burial_last symbol burial (e ∷ es) = ap (λ b. is_end e || b) (burial_last symbol burial es)

pub seen_of : (new : History) (s : Session) (limit : ℕ) (c : Command) (symbol : Name) (burial : Burial) (reply : Reply) (w : Window) → kind_of c ≡ Buries symbol burial → SeenFacts new s limit c symbol reply w
    → IsLegalSeen new (record { session = s; limit = limit }) c reply w
seen_of new s limit c symbol burial reply w is f = record {
  after = f.after;
  before = f.before;
  listed = subst (λ k. IsListedOf k reply own) (sym is) f.listed;
  listed_within = subst (λ o. IsListedWithin o w.start reply.place) (sym f.listed) tt;
  own = record {
    events = subst (λ k. MatchBool (is_cut reply.outcome) (IsBeginning (IsOwnOf new s w k reply true) own ⊎ IsBeginning (IsOwnOf new s w k reply false) own) (IsOwnOf new s w k reply (is_done reply) own)) (sym is) f.events;
    commits = f.commits;
    short = λ cut fault. ap (λ k. list_any (is_last_of k) own) is ∙ (burial_last symbol burial own ∙ f.short cut fault);
    meant = subst (λ k. AreMeantOf new s c k reply (refer_places s.client w.start (history_at new w.stop))) (sym is) f.meant;
    late = f.late;
  };
  left = record {
    left = f.left ∙ ap (λ k. left_of k reply (known_events new s.client reply w) (stood_before new s.client k reply w)) (sym is);
    causes = subst (AllByRecursion (MayBeLeft new s reply w)) (sym f.left) tt;
  };
  outcome = f.outcome;
}
  where
    own : List Event
    own = own_events new s.client w
