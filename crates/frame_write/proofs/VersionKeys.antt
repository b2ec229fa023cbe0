-- The keys of a version's index and element, and the plan that puts both behind the new tiles.
use Rattle.std.proofs.Common.{◌≡◌, ℕ, suc, ◌<◌, ◌^◌, ℤ, List, [], ◌∷◌, ◌++◌, map, Ok, refl, ap, sym, ◌∙◌, subst, append_assoc}
use Rattle.std.specs.Arc.{arc_value}
use Rattle.frame_core.specs.Schemas.{Schema}
use Rattle.index_tree.specs.declared.index.Slot.{Slot}
use Rattle.index_tree.specs.IndexText.{index_of}
use Rattle.key_kind.specs.declared.key.KeyKind.TheVariants as kinds
use Rattle.key_kind.specs.declared.key.Key.{Key}
use Rattle.key_kind.specs.Names.{Name, IsName}
use Rattle.key_kind.specs.KeyText.{key_text}
use Rattle.bucket_core.specs.declared.event.Change.{Change}
use Rattle.bucket_core.specs.History.{Bytes}
use Rattle.store_model.specs.declared.chain.LinkRow.{LinkRow}
use Rattle.store_model.specs.declared.chain.ChainMark.TheVariants as marks
use Rattle.version_chain.specs.declared.tip.ChainTip.{ChainTip}
use Rattle.version_chain.specs.Entries.{IsKeyOf}
use Rattle.version_chain.specs.Marking.{element_key}
use Rattle.reply_model.specs.Answering.{removed}
use Rattle.frame_write.specs.declared.laying.Layout.{Layout}
use Rattle.frame_write.specs.declared.options.Options.{Options}
use Rattle.frame_write.specs.declared.plan.Plan.{Plan}
use Rattle.frame_write.specs.declared.plan.Linked.{Linked}
use Rattle.frame_write.specs.declared.puts.Prepared.{Prepared}
use Rattle.frame_write.specs.Plans.{put_seen, puts_seen}
use Rattle.frame_write.specs.SlotKeys.{slots_key}
use Rattle.frame_write.specs.Versions.{row_of, index_with, AddsElement, IsVersionPlan}

-- the key of an index keeps the rules of its kind
pub slots_key_of : (client serial : ℕ) (symbol : Name) (version : ℕ) (slots : List Slot) (key : Key) → IsName symbol → key ≡ slots_key client symbol version serial slots → IsKeyOf kinds.TableIndex key
slots_key_of client serial symbol version slots key name is = subst (IsKeyOf kinds.TableIndex) (sym is) (record { kind_is = refl; is_key = record { name = name; made = λ e. cc; version = λ e. cc; stamps = λ e. cc } })

-- prepared puts behind others
pub seen_more : (xs ys : List Prepared) → puts_seen (xs ++ ys) ≡ puts_seen xs ++ puts_seen ys
seen_more [] ys = refl
seen_more (x ∷ xs) ys = ap (λ l. put_seen x ∷ l) (seen_more xs ys)

-- the index behind the new tiles, and the element of its link behind it, are the plan of the version
pub version_plan : (client version : ℕ) (symbol : Name) (tip : ChainTip) (layout : Layout) (schema : Schema) (change : Change) (options : Options) (puts : List Prepared) (index : Prepared) (stamp : ℤ) (key : Key) (last : ℕ) (plan : Plan)
    → (linked : Linked) → plan.puts ≡ linked.puts → plan.was ≡ linked.entered.was → plan.entry ≡ linked.entered.entry → arc_value plan.mark ≡ arc_value linked.entered.mark → plan.version ≡ version → arc_value plan.changes ≡ change ∷ removed tip.buried
    → puts ≡ layout.puts ++ index ∷ [] → index.key ≡ slots_key client symbol version layout.next layout.slots → index_of (arc_value index.body) ≡ Ok (index_with schema layout) → IsName symbol → stamp ≡ options.at → key ≡ index.key
    → last ≡ suc layout.next → last < 2 ^ 64 → AddsElement client last symbol tip (record { version = version; stamp = stamp; rows = layout.rows; index = key }) puts linked
    → IsVersionPlan client version symbol tip layout schema change options plan
version_plan client version symbol tip layout schema change options puts index stamp key last plan linked linked_is was_is entry_is mark_is number_is changes_are puts_are key_is spelled name stamp_is same last_is small p =
    let row_is : record { version = version; stamp = stamp; rows = layout.rows; index = key } ≡ row_of client symbol version layout options = (λ i. record { version = version; stamp = stamp_is i; rows = layout.rows; index = (same ∙ key_is) i }) in
    record {
      index = arc_value index.body;
      element = p.element;
      puts = ap puts_seen linked_is ∙ (p.puts_are
          ∙ (ap (λ (ps : List Prepared). puts_seen ps ++ (element_key client symbol last, p.element) ∷ []) puts_are
          ∙ (ap (λ (ps : List (Key × Bytes)). ps ++ (element_key client symbol last, p.element) ∷ []) (seen_more layout.puts (index ∷ []))
          ∙ (append_assoc (puts_seen layout.puts) (put_seen index ∷ []) ((element_key client symbol last, p.element) ∷ [])
          ∙ (λ i. puts_seen layout.puts ++ (key_is i, arc_value index.body) ∷ (element_key client symbol (last_is i), p.element) ∷ [])))));
      index_spelled = spelled;
      element_spelled = p.spelled ∙ ap (λ (row : LinkRow). Ok (record { prev = tip.was; changes = marks.Link row ∷ map marks.Tomb tip.buried })) row_is;
      was = was_is ∙ p.was;
      number = number_is;
      entry = entry_is ∙ (p.entry ∙ ap (λ n. element_key client symbol n) last_is);
      mark = mark_is ∙ (p.mark ∙ ap key_text (sym entry_is));
      changes = changes_are;
      is_name = name;
      serials_fit = subst (λ n. n < 2 ^ 64) last_is small;
    }
