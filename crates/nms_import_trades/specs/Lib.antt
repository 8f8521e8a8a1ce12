pub mod TradeRow
pub mod Executions
pub mod TradeCauses
pub mod TradePlacing
pub mod TradeMap
pub mod TradeTelling
pub mod Examples
