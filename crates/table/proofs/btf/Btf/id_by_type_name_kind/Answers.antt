use Rattle.std.proofs.Common.{◌≡◌, map, take, length-take, not, cond, sym, ap, ◌∙◌, arith}
use Rattle.std.proofs.lemmas.List.{take_all}
use Rattle.meaning.specs.Questions.{find_from}
use Rattle.rows.specs.Rows.{decl_of}
use Rattle.layout.specs.Refusals.{refused}
use Rattle.meaning.specs.Table.{no_table}
use Rattle.table.specs.Tables.{table_of, used_rows, Seen}
use Rattle.table.proofs.Checks.{asked_held}
use Rattle.table.proofs.btf.Btf.id_by_type_name_kind.Goals as goal

-- a table has no more rows than the search reads
pub returns : goal.returns
returns c =
    let s = c.args.self.now in
    let t = table_of s c.args.strings.now in
    let name = c.args.name.now in
    let few = s.few in
    let all : take 1048575 (used_rows s) ≡ used_rows s = take_all 1048575 (used_rows s) (omega (arith, length-take s.type_count s.types.now)) in
    let view = asked_held t _ _ c.in_ok-view.ensures in
    c.id_by_type_name_kind.ensures c.in_ok-view.field-0.elements.now ∙
    ap (λ (x : Seen). find_from (map (decl_of x.elements) (take 1048575 x.rows)) x.strings name c.args.kind 0) view.1 ∙
    ap (λ rows. find_from (map (decl_of s.elements.now) rows) (take s.string_len c.args.strings.now) name c.args.kind 0) all ∙
    ap (λ h. cond (not h) (refused no_table) (find_from t.decls (take s.string_len c.args.strings.now) name c.args.kind 0)) (sym view.0)
