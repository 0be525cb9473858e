-- The refusals of the property graph, of listeners and of owners among those of the store.
use Rattle.fx_graph_model.specs.declared.errors.GraphError.{GraphError}
use Rattle.fx_graph_model.specs.declared.errors.GraphError.TheVariants as graph
use Rattle.fx_handles.specs.declared.OwnerError.{OwnerError}
use Rattle.fx_handles.specs.declared.OwnerError.TheVariants as handles
use Rattle.fx_listen.specs.declared.ListenError.{ListenError}
use Rattle.fx_listen.specs.declared.ListenError.TheVariants as listen
use Rattle.fx_store_model.specs.declared.errors.StoreError.{StoreError}
use Rattle.fx_store_model.specs.declared.errors.StoreError.TheVariants as error

abbrev pub of_graph : GraphError → StoreError
of_graph (graph.Unknown name) = error.Unknown name
of_graph (graph.ReadOnly name) = error.ReadOnly name
of_graph (graph.WrongKind name) = error.WrongKind name
of_graph (graph.Bound name) = error.Bound name
of_graph (graph.Cycle name) = error.Cycle name
of_graph graph.Full = error.Full
of_graph (graph.InUse name) = error.InUse name
of_graph graph.Memory = error.Memory

abbrev pub of_listen : ListenError → StoreError
of_listen listen.StaleOwner = error.StaleOwner
of_listen listen.Full = error.Full
of_listen listen.Memory = error.Memory

abbrev pub of_owner : OwnerError → StoreError
of_owner handles.Full = error.Full
of_owner handles.Memory = error.Memory
