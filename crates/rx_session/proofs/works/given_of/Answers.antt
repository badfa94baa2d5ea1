use Rattle.rx_page.specs.Written.{graph_made}
use Rattle.rx_session.proofs.WorkLemmas.{given_text, given_quads}
use Rattle.rx_session.proofs.works.given_of.Goals as goal

pub returns-in_ok-text-in-Text : goal.returns-in_ok-text-in-Text
returns-in_ok-text-in-Text c =
    given_text c.args.plan c.in-Text.form c.args.first (graph_made c.args.list) _ c.in_ok-text-in-Text.text _ c.in-Text.is c.in-Ok.ensures.graph
    c.in_ok-text-in-Text.ensures.spelled c.in_ok-text-in-Text.ensures.denotes c.in-Ok.ensures.nodes

pub returns-in-Quads : goal.returns-in-Quads
returns-in-Quads c =
    given_quads c.args.plan c.in-Quads.name c.args.first (graph_made c.args.list) _ c.new-quads.result _ c.in-Quads.is c.in-Ok.ensures.graph
    c.new-quads.ensures c.in-Ok.ensures.nodes
