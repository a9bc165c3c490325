use Rattle.std.proofs.Common.{◌≡◌, ◌<◌, ◌≤◌, map, length, get_or, sym, refl, ap, ◌∙◌, subst, arith}
use Rattle.std.proofs.lemmas.Grind.{common_steps}
use Rattle.std.proofs.lemmas.List.Elements.{All-map}
use lib.ListN.{length-map}
use Rattle.std.specs.List.{All}
use Rattle.layout.specs.Kinds.{kind_at, element_words}
use Rattle.layout.specs.Heads.{head_kept}
use Rattle.elements.specs.Packing.{packed}
use Rattle.meaning.specs.Adding.{with_type}
use Rattle.layout.specs.Info.{elements_of}
use Rattle.table.specs.Tables.{table_of, Put}
use Rattle.table.proofs.Checks.{declaration_none, room_none}
use Rattle.table.proofs.Counts.{decl_count}
use Rattle.table.proofs.Tables.{head_elements, table_put}
use Rattle.table.proofs.btf.Btf.add_type.Goals as goal

pub returns-in_err-check_room-clause-outcome : goal.returns-in_err-check_room-clause-outcome
returns-in_err-check_room-clause-outcome g c = grind (arith, common_steps, c.in_err-check_room.ensures c.args.strings.now)

pub overflow_cast-count : goal.overflow_cast-count
overflow_cast-count g c =
    let fine = declaration_none c.args.declaration.now g.E.ElementType.serving (length c.args.elements.now) c.in_ok-kind.ensures.fault in
    let few = fine.few in
    omega arith

pub put_type-requires-clause-row : goal.put_type-requires-clause-row
put_type-requires-clause-row g c =
    let room = room_none (table_of c.args.self.now c.args.strings.now) (length c.args.elements.now) (c.in_ok-check_room.ensures c.args.strings.now) in
    omega (arith, decl_count c.args.self.now c.args.strings.now)

pub put_type-requires-clause-room : goal.put_type-requires-clause-room
put_type-requires-clause-room g c =
    let room = room_none (table_of c.args.self.now c.args.strings.now) (length c.args.elements.now) (c.in_ok-check_room.ensures c.args.strings.now) in
    room.1

pub put_type-requires-clause-suits : goal.put_type-requires-clause-suits
put_type-requires-clause-suits g c =
    let d = c.args.declaration.now in
    let count = length c.args.elements.now in
    let fine = declaration_none d g.E.ElementType.serving count c.in_ok-kind.ensures.fault in
    let kind = kind_at d.kind in
    let worded : 0 < count → 0 < element_words kind =
    λ some. subst (λ n. 0 < n) (sym (g.met.E.ElementType.suits kind (fine.serves some))) g.met.E.ElementType.wide in
    let head : c.head-head.result ≡ head_kept d kind count = c.head-head.ensures ∙ ap (λ k. head_kept d k count) c.in_ok-kind.ensures.kind in
    ap (λ h. elements_of h.info) head ∙ head_elements d kind count fine.few worded

pub returns-clause-outcome : goal.returns-clause-outcome
returns-clause-outcome g c =
    let s = c.args.self.now in
    let later = c.put_type.new.self in
    let d = c.args.declaration.now in
    let count = length c.args.elements.now in
    let tail = map g.E.ElementType.meaning c.args.elements.now in
    let as_long : length tail ≡ count = length-map c.args.elements.now g.E.ElementType.meaning in
    let t = table_of s c.args.strings.now in
    let fine = declaration_none d g.E.ElementType.serving count c.in_ok-kind.ensures.fault in
    let room = room_none t count (c.in_ok-check_room.ensures c.args.strings.now) in
    let rows : length t.decls ≡ s.type_count = decl_count s c.args.strings.now in
    let kind = kind_at d.kind in
    let few : length tail ≤ 65535 = let f = fine.few in omega arith in
    let worded : 0 < length tail → 0 < element_words kind =
    λ some. subst (λ n. 0 < n) (sym (g.met.E.ElementType.suits kind (fine.serves (subst (λ n. 0 < n) as_long some)))) g.met.E.ElementType.wide in
    let counted : All (λ ws. length ws ≡ element_words kind) tail =
    All-map (λ ws. length ws ≡ element_words kind) g.E.ElementType.meaning c.args.elements.now
    (λ k e h. g.met.E.ElementType.counted (get_or c.args.elements.now k e) ∙ sym (g.met.E.ElementType.suits kind (fine.serves (omega arith)))) in
    let head : c.head-head.result ≡ head_kept d kind (length tail) =
    c.head-head.ensures ∙ ap (λ k. head_kept d k count) c.in_ok-kind.ensures.kind ∙ ap (head_kept d kind) (sym as_long) in
    let put : Put s later (head_kept d kind (length tail)) (map packed tail) = subst (λ h. Put s later h (map packed tail)) head c.put_type.ensures.put in
    let whole : table_of later c.args.strings.now ≡ with_type t d tail =
    table_put s later d kind tail put refl (omega arith) (omega arith) few worded counted c.args.strings.now in
    let id : c.put_type.result ≡ length t.decls = c.put_type.ensures.id ∙ sym rows in
    grind (arith, common_steps, whole, id, c.in_ok-check_room.ensures c.args.strings.now)
