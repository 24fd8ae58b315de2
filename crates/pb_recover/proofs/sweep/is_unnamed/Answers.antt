use Rattle.std.proofs.Common.{◌≡◌, sym, ap, subst, ◌∙◌}
use Rattle.pb_names.specs.declared.file_kind.FileKind.{FileKind}
use Rattle.pb_version.specs.Version.{FiveNumbers}
use Rattle.pb_recover.specs.Calls.{words_of}
use Rattle.pb_recover.proofs.Unnamed.{NamesFile, fails, is_other, named_by, passes, unnamed, unnumbered}
use Rattle.pb_recover.proofs.sweep.is_unnamed.Goals as goal

pub returns-in_default-number-clause-yes : goal.returns-in_default-number-clause-yes
returns-in_default-number-clause-yes c = λ _.
    unnumbered c.args.manifest c.args.catalogue c.args.version.now c.five-five.ensures.in_form c.ranges.manifest.fits c.ranges.catalogue.fits
    c.in-Some.file.kind c.in-Some.file.number c.args.name.now c.in-Some.ensures.kind c.in-Some.ensures.number c.in_default-number.is

pub returns-in-Manifest-clause-yes : goal.returns-in-Manifest-clause-yes
returns-in-Manifest-clause-yes c = λ is.
    let number = c.in-Some-number.number in
    let words = words_of c.args.manifest c.args.catalogue c.args.version.now in
    unnamed c.args.manifest c.args.catalogue c.args.version.now c.five-five.ensures.in_form c.ranges.manifest.fits c.ranges.catalogue.fits
    c.in-Some.file.kind number c.args.name.now ((c.in-Some.ensures.number number).0 c.in-Some-number.is)
    (λ names. is_other number c.args.manifest is (subst (λ (kind : FileKind). NamesFile words kind number) c.in-Manifest.is names))

pub returns-in-Catalogue-clause-yes : goal.returns-in-Catalogue-clause-yes
returns-in-Catalogue-clause-yes c = λ is.
    let number = c.in-Some-number.number in
    let words = words_of c.args.manifest c.args.catalogue c.args.version.now in
    unnamed c.args.manifest c.args.catalogue c.args.version.now c.five-five.ensures.in_form c.ranges.manifest.fits c.ranges.catalogue.fits
    c.in-Some.file.kind number c.args.name.now ((c.in-Some.ensures.number number).0 c.in-Some-number.is)
    (λ names. is_other number c.args.catalogue is (subst (λ (kind : FileKind). NamesFile words kind number) c.in-Catalogue.is names))

pub returns-in-Log-clause-yes : goal.returns-in-Log-clause-yes
returns-in-Log-clause-yes c = λ is.
    let same : c.five.inside.log ≡ c.args.version.now.five.log = ap (λ (f : FiveNumbers). f.log) (c.five.view_is ∙ c.five-five.ensures.value) in
    let number = c.in-Some-number.number in
    let words = words_of c.args.manifest c.args.catalogue c.args.version.now in
    unnamed c.args.manifest c.args.catalogue c.args.version.now c.five-five.ensures.in_form c.ranges.manifest.fits c.ranges.catalogue.fits
    c.in-Some.file.kind number c.args.name.now ((c.in-Some.ensures.number number).0 c.in-Some-number.is)
    (λ names. is_other number c.five.inside.log is
    (subst (λ (kind : FileKind). NamesFile words kind number) c.in-Log.is names ∙ sym same))

pub returns-in-Table-clause-yes : goal.returns-in-Table-clause-yes
returns-in-Table-clause-yes c = λ is.
    let number = c.in-Some-number.number in
    let words = words_of c.args.manifest c.args.catalogue c.args.version.now in
    unnamed c.args.manifest c.args.catalogue c.args.version.now c.five-five.ensures.in_form c.ranges.manifest.fits c.ranges.catalogue.fits
    c.in-Some.file.kind number c.args.name.now ((c.in-Some.ensures.number number).0 c.in-Some-number.is)
    (λ names. fails c.is_stored.result is
    (c.is_stored.ensures ∙ subst (λ (kind : FileKind). NamesFile words kind number) c.in-Table.is names))

pub returns-in-Table-clause-no : goal.returns-in-Table-clause-no
returns-in-Table-clause-no c = λ is unnamed.
    let number = c.in-Some-number.number in
    let words = words_of c.args.manifest c.args.catalogue c.args.version.now in
    unnamed.unnamed
    (named_by words c.in-Some.file.kind number c.args.name.now ((c.in-Some.ensures.number number).0 c.in-Some-number.is).1
    (subst (λ (kind : FileKind). NamesFile words kind number) (sym c.in-Table.is)
    (sym c.is_stored.ensures ∙ passes c.is_stored.result is)))
