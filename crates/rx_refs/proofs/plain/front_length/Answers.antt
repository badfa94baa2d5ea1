use Rattle.rx_refs.proofs.Common.{◌∙◌, ap, fragment_from, path_end_from}
use Rattle.rx_refs.proofs.ByteLemmas.{kept-same, kept-query, kept-network, kept-rooted, kept-relative}
use Rattle.rx_refs.proofs.plain.front_length.Goals as goal

pub returns-then-is_rooted : goal.returns-then-is_rooted
returns-then-is_rooted c =
    kept-rooted c.args.base.now c.args.reference.now c.as_bytes-text.result.now c.as_bytes-text.ensures.value c.utf8.base c.utf8.reference c.requires.iri c.if-not-is_plain.ensures
    c.args.split c.in-Some.cut c.in-Some.is c.requires.split c.if-is_rooted.ensures

pub returns : goal.returns
returns c =
    kept-relative c.args.base.now c.args.reference.now c.as_bytes-text.result.now c.as_bytes-text.ensures.value c.utf8.base c.utf8.reference c.requires.iri c.if-not-is_plain.ensures
    c.args.split c.in-Some.cut c.in-Some-folder.folder c.in-Some.is c.in-Some-folder.is c.requires.split c.if-not-is_relative.ensures

pub returns-then-keeps_all : goal.returns-then-keeps_all
returns-then-keeps_all c =
    kept-same c.args.base.now c.args.reference.now c.as_bytes-text.result.now c.as_bytes-text.ensures.value c.utf8.base c.utf8.reference c.requires.iri c.if-not-is_plain.ensures
    c.fragment_of.result c.if-keeps_all.ensures (c.fragment_of.ensures ∙ ap (fragment_from 0) c.as_bytes.ensures.value)

pub returns-then-is_query : goal.returns-then-is_query
returns-then-is_query c =
    kept-query c.args.base.now c.args.reference.now c.as_bytes-text.result.now c.as_bytes-text.ensures.value c.utf8.base c.utf8.reference c.requires.iri c.if-not-is_plain.ensures
    c.path_end_of.result c.if-is_query.ensures (c.path_end_of.ensures ∙ ap (path_end_from 0) c.as_bytes-then-is_query.ensures.value)

pub returns-then-has_authority : goal.returns-then-has_authority
returns-then-has_authority c =
    kept-network c.args.base.now c.args.reference.now c.as_bytes-text.result.now c.as_bytes-text.ensures.value c.utf8.base c.utf8.reference c.requires.iri c.if-not-is_plain.ensures
    c.scheme_end_of.result c.if-has_authority.ensures (rw c.as_bytes-then-has_authority.ensures.value at c.scheme_end_of.ensures)
